-- The i-th line that says an extent says the i-th of the extents, and a row has its extent's source and line, so those are that line's.
use Rattle.std.specs.Prelude.{Ok}
use Prim.Native.Nat.{ℕ, suc, ◌+◌, ◌<◌}
use native.Mathlib.Omega.{arith}
use mathlib.Core.List.{List, [], ◌∷◌, ◌++◌}
use mathlib.Core.Path.{◌≡◌, refl, sym, ap, ◌∙◌}
use lib.ListN.{length, get_or}
use lib.Dec.{eqb}
use borrow.Author.Tests.{eq-eqb}
use Rattle.text.specs.Lines.{lines_of, count}
use Rattle.text.specs.Text.{trimmed}
use Rattle.text.specs.declared.sector.Bytes.{Bytes}
use Rattle.text.specs.declared.sector.Sectors.{Sectors}
use Rattle.text.proofs.Flat.{by_test}
use Rattle.lines.specs.Record.{no_extent, no_read, counted}
use Rattle.lines.specs.Line.{line_of}
use Rattle.lines.specs.declared.line.Said.TheVariants.{Extent}
use Rattle.lines.specs.declared.record.Text.{Text}
use Rattle.lines.specs.declared.record.ReadExtent.{ReadExtent}
use Rattle.lines.specs.declared.record.Record.{Record}
use Rattle.lines.specs.declared.record.VmdkAccessType.{VmdkAccessType}
use Rattle.lines.specs.declared.record.VmdkParsedExtent.{VmdkParsedExtent}
use Rattle.lines.specs.declared.record.VmdkParsedStorage.{VmdkParsedStorage}
use Rattle.lines.specs.declared.record.VmdkParsedStorage.TheVariants.{NoAccess, Zero, Flat}
use Rattle.descriptor.specs.Read.{read_of}
use Rattle.tables.specs.declared.table.Source.TheVariants.{Flat as File}
use Rattle.tables.specs.declared.table.Table.{Table}
use Rattle.maps.specs.Alike.{SameTable}
use Rattle.maps.specs.Place.{bytes_in}
use Rattle.theorems.specs.Statements.{place_after, sayings, sayings_of, extents_in, read_from, LineAt, Quotes, text_in}
use Rattle.theorems.specs.Rows.{Builds, source_of, row_at, InRows}
use Rattle.theorems.specs.NamedPlaces.{up_to, behind, in_quotes, ExtentFrom, FromLine, name_at}
use Rattle.theorems.proofs.Sayings.{read_length}
use Rattle.theorems.proofs.SaidLines.{said_at, said_below, Says, says_in, said_extent, said_line, only_one, read_rises}
use Rattle.theorems.proofs.Verdicts.{accepted_checked, accepted_read, accepted_extents}
use Rattle.theorems.proofs.LinePlaces.{Lies, lies}
use Rattle.theorems.proofs.ExtentLines.{extent_says, file_named}
use Rattle.theorems.proofs.Rows.{built_in_rows}

-- ---- the text between the first two quotes
pub up_to_lem : (b : ℕ) (l r : List ℕ) → count b l ≡ 0 → up_to b (l ++ b ∷ r) ≡ l
unfolding up_to count
up_to_lem b [] r h = rw (eq-eqb b b refl)
up_to_lem b (x ∷ l) r h =
    by_test (eqb x b) (λ e. let g : suc (count b l) ≡ 0 = rw e at h in absurd (omega arith))
    (λ e. rw (e, up_to_lem b l r (rw e at h)))

pub from_behind : (b : ℕ) (l r : List ℕ) → count b l ≡ 0 → behind b (l ++ b ∷ r) ≡ r
unfolding behind count
from_behind b [] r h = rw (eq-eqb b b refl)
from_behind b (x ∷ l) r h =
    by_test (eqb x b) (λ e. let g : suc (count b l) ≡ 0 = rw e at h in absurd (omega arith))
    (λ e. rw e (from_behind b l r (rw e at h)))

pub quotes_in : (l front middle back : List ℕ) → Quotes l front middle back → in_quotes l ≡ middle
unfolding in_quotes
quotes_in l front middle back q =
    rw (q.whole, from_behind 0x22 front (middle ++ 0x22 ∷ back) q.first) (up_to_lem 0x22 middle back q.second)

-- a line that says a flat extent names its file
line_names : (d : List ℕ) (p : ℕ) (l : List ℕ) → Lies d p l → (s : Sectors) (a : VmdkAccessType) (name : Text) (start : Sectors) → line_of p l ≡ Ok (Extent (record { sectors = s; storage = Flat a name start })) → text_in d name ≡ trimmed (in_quotes l)
line_names d p l i s a name start h =
    let f = file_named d p l s a name start i h in f.4 ∙ ap trimmed (sym (quotes_in l f.0 f.1 f.2 f.3))

source_names : (d : List ℕ) (p : ℕ) (l : List ℕ) → Lies d p l → (s : Sectors) (st : VmdkParsedStorage) → line_of p l ≡ Ok (Extent (record { sectors = s; storage = st })) → (a : VmdkAccessType) (start : Bytes) (name : Text) → source_of st ≡ File a start name → text_in d name ≡ trimmed (in_quotes l)
source_names d p l i s NoAccess h a start name e = let z : ◌≡◌ {A = ℕ} 0 1 = cc in absurd (omega arith)
source_names d p l i s (Zero b) h a start name e = let z : ◌≡◌ {A = ℕ} 0 1 = cc in absurd (omega arith)
source_names d p l i s (Flat b named sector) h a start name e =
    let q : named ≡ name = cc in rw (← q) (line_names d p l i s b named sector h)

-- ---- the extents that are read
module _ (d : List ℕ) (a : (read_of d).verdict ≡ (Ok tt)) where
  read_count : (read_of d).descriptor.count ≡ length (extents_in (sayings_of d))
  read_count = ap (λ (x : Record). x.count) (accepted_checked d a).1 ∙ read_length 1 (sayings_of d)

  -- extent i is said by the i-th line that says one, and has its number
  pub extent_from : (i : ℕ) → i < (read_of d).descriptor.count → ExtentFrom d (read_of d).descriptor i
  extent_from i h =
      let s = says_in 0 (lines_of d) i (omega (arith, h, read_count)) in
      let e : get_or (extents_in (sayings_of d)) i no_extent ≡ s.extent = said_extent (lines_of d) i s in
      record {
        before = s.before;
        line = s.line;
        place = place_after 0 s.before;
        number = suc (length s.before);
        there = record { after = s.after; lines = s.lines; place = refl; number = refl };
        nth = sym s.nth;
        says = s.says ∙ ap (λ x. Ok (Extent x)) (sym e ∙ ap (λ (xs : List VmdkParsedExtent). get_or xs i no_extent) (sym (accepted_extents d a)));
        lined = ap (λ (xs : List ReadExtent). (get_or xs i no_read).line) (accepted_read d a) ∙ said_line (lines_of d) i s;
      }

-- ---- the rows
module _ (d : List ℕ) (t : Table) (a : (read_of d).verdict ≡ (Ok tt)) (b : Builds (read_of d).descriptor t) where
  abbrev rows : InRows (read_of d).descriptor t
  rows = built_in_rows (read_of d).descriptor t b

  pub said_count : t.count ≡ length (extents_in (sayings_of d))
  said_count = rows.count ∙ ap length (accepted_extents d a)

  -- the row of a line that says an extent
  module _ (before : List (List ℕ)) (l : List ℕ) (p k : ℕ) (at : LineAt d before l p k) (x : VmdkParsedExtent) (h : line_of p l ≡ Ok (Extent x)) where
    abbrev row : ℕ
    row = length (extents_in (sayings 0 before))

    said_here : line_of (place_after 0 before) l ≡ Ok (Extent x)
    said_here = rw (← at.place) h

    pub row_below : row < t.count
    row_below = rw (said_count, at.lines) (said_below 0 before l at.after x said_here)

    row_extent : get_or (counted (read_of d).descriptor) row no_extent ≡ x
    row_extent = rw (accepted_extents d a, at.lines) (said_at 0 before l at.after x said_here)

    pub row_source : (row_at t row).source ≡ source_of x.storage
    row_source = rows.source row row_below ∙ rw row_extent

    row_long : (row_at t row).end.0 ≡ (row_at t row).start.0 + bytes_in x
    row_long = rows.long row row_below ∙ rw row_extent

  -- its line
  row_line_lem : (i : ℕ) → i < t.count → (row_at t i).line ≡ (get_or (read_from 1 (sayings_of d)) i no_read).line
  row_line_lem i h = rows.lines i h ∙ ap (λ (xs : List ReadExtent). (get_or xs i no_read).line) (accepted_read d a)

  from_says : (i : ℕ) → i < t.count → Says 0 (lines_of d) i → FromLine d t i
  from_says i b s =
      let p : ℕ = place_after 0 s.before in
      let at : LineAt d s.before s.line p (suc (length s.before)) =
      record { after = s.after; lines = s.lines; place = refl; number = refl } in
      let x : VmdkParsedExtent = s.extent in
      let l : Lies d p s.line = lies d s.before s.line p _ at in
      let source : (row_at t i).source ≡ source_of x.storage = rw (← s.nth) (row_source s.before s.line p _ at x s.says) in
      record {
        before = s.before;
        line = s.line;
        place = p;
        number = suc (length s.before);
        there = at;
        nth = s.nth;
        extent = x;
        says = s.says;
        words = extent_says d p s.line x l s.says;
        long = rw (← s.nth) (row_long s.before s.line p _ at x s.says);
        source = source;
        lined = row_line_lem i b ∙ said_line (lines_of d) i s;
        named = λ acc start name e. source_names d p s.line l x.sectors x.storage s.says acc start name (sym source ∙ e);
        only = λ before' l' q k y there h n.
            let g : length before' ≡ length s.before = only_one 0 (lines_of d) before' s.before l' s.line there.after s.after y x there.lines s.lines (rw (← there.place) h) s.says (n ∙ sym s.nth) in
            there.number ∙ ap suc g;
      }

  -- row i is the i-th line that says an extent
  pub from_line : (i : ℕ) → i < t.count → FromLine d t i
  from_line i h = from_says i h (says_in 0 (lines_of d) i (omega (arith, said_count)))

  -- the name of its row, of a line that says a flat extent
  pub row_name : (before : List (List ℕ)) (l : List ℕ) (p k : ℕ) → LineAt d before l p k → (s : Sectors) (acc : VmdkAccessType) (name : Text) (start : Sectors) → line_of p l ≡ Ok (Extent (record { sectors = s; storage = Flat acc name start })) → name_at d t (length (extents_in (sayings 0 before))) ≡ trimmed (in_quotes l)
  row_name before l p k at s acc name start h =
      rw (row_source before l p k at (record { sectors = s; storage = Flat acc name start }) h) (line_names d p l (lies d before l p k at) s acc name start h)

  -- lines rise strictly over the rows
  pub lines_rise : (i j : ℕ) → i < j → j < t.count → (row_at t i).line < (row_at t j).line
  lines_rise i j l h =
      rw (row_line_lem i (omega arith), row_line_lem j h) (read_rises 1 (sayings_of d) i j l (omega (arith, said_count, read_length 1 (sayings_of d))))

-- ---- the same of the same table, with other places past the count
pub from_same : (d : List ℕ) (s t : Table) → SameTable s t → (i : ℕ) → i < s.count → FromLine d t i → FromLine d s i
from_same d s t same i l w =
    let row = same.alike.rows i l in
    record {
      before = w.before;
      line = w.line;
      place = w.place;
      number = w.number;
      there = w.there;
      nth = w.nth;
      extent = w.extent;
      says = w.says;
      words = w.words;
      lined = same.lines i l ∙ w.lined;
      long = ap (λ (b : Bytes). b.0) row.end ∙ w.long ∙ ap (λ (b : Bytes). b.0 + bytes_in w.extent) (sym row.start);
      source = row.source ∙ w.source;
      named = λ a start name e. w.named a start name (sym row.source ∙ e);
      only = w.only;
    }
