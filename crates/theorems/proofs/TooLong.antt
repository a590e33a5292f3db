-- An answer's first bytes tell what it is: the probe's line, a mapping, a piece, a stop, or a refusal, whose number is its second word.
-- Reading, building, mapping and the walk give no number above 23, so `refused 24 0` is the answer to too long an input alone.
use Rattle.std.specs.Prelude.{Err, Ok, Result, Some}
use Prim.Native.Nat.{ℕ, zero, suc, ◌%◌, ◌/◌, ◌≤◌, ◌<◌}
use native.Mathlib.Omega.{arith}
use mathlib.Core.List.{List, [], ◌∷◌, ◌++◌, append_assoc}
use mathlib.Core.Logic.{◌↔◌, ◌⊎◌, inl, inr}
use mathlib.Core.Path.{◌≡◌, refl, sym, ap, subst, ◌∙◌}
use lib.ListN.{length, get_or}
use lib.Dec.{ltb, leb}
use borrow.Author.Tests.{leb-true, leb-false, ne_eqb}
use Rattle.text.specs.Ascii.{ascii}
use Rattle.text.specs.Lines.{count}
use Rattle.text.specs.Number.{number_of}
use Rattle.text.specs.Sector.{largest}
use Rattle.text.proofs.Flat.{by_test}
use Rattle.lines.specs.declared.record.Refusal.{Refusal}
use Rattle.descriptor.specs.Read.{read_of}
use Rattle.tables.specs.declared.table.Row.{Row}
use Rattle.tables.specs.declared.table.Table.{Table}
use Rattle.tables.specs.declared.table.ShallowMapping.TheVariants.{Eof, Zero, Raw}
use Rattle.tables.specs.declared.table.Piece.{Piece}
use Rattle.tables.specs.declared.table.Stop.TheVariants.{Done, More}
use Rattle.maps.specs.Map.{map_of}
use Rattle.maps.specs.Walk.{Walk, walk_of}
use Rattle.puts.specs.Decimal.{digit, digits_in, decimal_of}
use Rattle.puts.proofs.Theorems.{digits_read_back}
use Rattle.phrases.specs.Line.{spaced, field, line, lines_from, lines_to, refused_line}
use Rattle.disk_lines.specs.Report.{probe_line, report_of}
use Rattle.map_lines.specs.Map.{mapping_words}
use Rattle.walk_lines.specs.Walk.{piece_from, piece_line, stop_text, stop_line, walk_lines}
use Rattle.report.specs.Command.{most_input, said, answer_of}
use Rattle.report.specs.declared.command.Command.{Command}
use Rattle.report.specs.declared.command.Command.TheVariants.{Report, Map, Walk as Walks, Usage}
use Rattle.tables.specs.declared.table.ShallowMapping.{ShallowMapping}
use Rattle.tables.specs.declared.table.Stop.{Stop}
use Rattle.lines.specs.declared.record.Fault.{Fault}
use Rattle.lines.specs.declared.record.Fault.TheVariants.{CountTooLarge}
use Rattle.lines.specs.Fault.{refusal_number}
use Rattle.theorems.specs.Cases.{lines}
use Rattle.theorems.specs.NamedPlaces.{up_to, behind}
use Rattle.theorems.specs.Reports.{RefusedBy, Opens}
use Rattle.theorems.specs.Tiling.{All}
use Rattle.theorems.proofs.LineRows.{up_to_lem}
use Rattle.theorems.proofs.MapRefusals.{map_numbers, walk_numbers}
use Rattle.theorems.proofs.Over.{read_few, build_few}
use Rattle.theorems.proofs.Reports.{only_refused, built_written, refused_or_opens, answer_short, answer_long}

abbrev due : List ℕ
due = lines ("refused 24 0" ∷ [])

-- ---- the digits of a number
abbrev IsDigit : ℕ → Type 0
IsDigit b = (0x30 ≤ b) × (b < 0x3A)

digits_snoc : (xs : List ℕ) (b : ℕ) → All IsDigit xs → IsDigit b → All IsDigit (xs ++ (b ∷ []))
digits_snoc [] b a d = (d, tt)
digits_snoc (x ∷ xs) b a d = (a.0, digits_snoc xs b a.1 d)

all_digits : (k n : ℕ) → All IsDigit (digits_in k n)
unfolding digits_in
all_digits zero n = ((omega arith, omega arith), tt)
all_digits (suc k) n =
    by_test (ltb n 10)
    (λ e. rw e ((omega arith, omega arith), tt))
    (λ e. rw e (digits_snoc (digits_in k (n / 10)) (digit (n % 10)) (all_digits k (n / 10)) (omega arith, omega arith)))

first_digit : (k n : ℕ) → (b : ℕ) × (r : List ℕ) × (digits_in k n ≡ b ∷ r)
unfolding digits_in
first_digit zero n = (digit (n % 10), [], refl)
first_digit (suc k) n =
    by_test (ltb n 10)
    (λ e. (digit (n % 10), [], rw e))
    (λ e. let w = first_digit k (n / 10) in (w.0, w.1 ++ (digit (n % 10) ∷ []), rw (e, w.2)))

no_space : (xs : List ℕ) → All IsDigit xs → count 0x20 xs ≡ 0
unfolding count
no_space [] a = refl
no_space (x ∷ xs) a = rw (ne_eqb x 0x20 (λ e. absurd (omega (arith, e, a.0.0)))) (no_space xs a.1)

-- a text that begins with a number is no refusal
number_first : (n : ℕ) (rest : List ℕ) → decimal_of n ++ rest ≡ due → ⊥
unfolding decimal_of
number_first n rest e =
    let w = first_digit n n in
    let a : All IsDigit (w.0 ∷ w.1) = subst (All IsDigit) w.2 (all_digits n n) in
    let f : w.0 ∷ (w.1 ++ rest) ≡ due = rw w.2 at e in
    let h : w.0 ≡ 0x72 = ap (λ (x : List ℕ). get_or x 0 0) f in absurd (omega (arith, h, a.0.1))

-- ---- the number of a refusal
refused_number : (n : ℕ) (rest : List ℕ) → n ≤ 23 → spaced (ascii "refused") ++ (spaced (decimal_of n) ++ rest) ≡ due → ⊥
unfolding spaced up_to behind decimal_of digits_in
refused_number n rest h e =
    let q : spaced (decimal_of n) ++ rest ≡ decimal_of n ++ 0x20 ∷ rest = append_assoc (decimal_of n) (0x20 ∷ []) rest in
    let a : behind 0x20 (spaced (ascii "refused") ++ (spaced (decimal_of n) ++ rest)) ≡ decimal_of n ++ 0x20 ∷ rest = q in
    let b : up_to 0x20 (decimal_of n ++ 0x20 ∷ rest) ≡ decimal_of n = up_to_lem 0x20 (decimal_of n) rest (no_space (decimal_of n) (all_digits n n)) in
    let f : decimal_of n ≡ decimal_of 24 = sym b ∙ ap (up_to 0x20) (sym a) ∙ ap (λ (x : List ℕ). up_to 0x20 (behind 0x20 x)) e in
    let v : Some n ≡ Some 24 = sym (digits_read_back n (omega arith)) ∙ ap (number_of largest) f ∙ digits_read_back 24 (omega arith) in
    let z : n ≡ 24 = cc in absurd (omega arith)

refused_line_lem : (x : Refusal) → refusal_number x.fault ≤ 23 → refused_line x ≡ due → ⊥
unfolding refused_line line
refused_line_lem x h e = refused_number (refusal_number x.fault) _ h e

-- ---- by what is answered
by_23 : (d : List ℕ) (x : Refusal) → RefusedBy d x → refusal_number x.fault ≤ 23
by_23 d x (inl e) = omega (arith, (read_few d x.fault x.second e).1)
by_23 d x (inr e) = few (build_few (read_of d).descriptor x.fault x.second e.1)
  where
    few : ((18 ≤ refusal_number x.fault) × (refusal_number x.fault ≤ 20)) ⊎ (x.fault ≡ CountTooLarge) → refusal_number x.fault ≤ 23
    few (inl h) = omega (arith, h.1)
    few (inr h) = omega (arith, ap refusal_number h)

report_due : (d : List ℕ) → report_of d ≡ due → ⊥
unfolding report_of probe_line line spaced
report_due d e = let h : ◌≡◌ {A = ℕ} 0x70 0x72 = ap (λ (x : List ℕ). get_or x 0 0) e in absurd (omega (arith, h))

mapping_due : (d : List ℕ) (rows : List Row) (run n : ℕ) (m : Result ShallowMapping Fault) → ((k : Fault) → m ≡ Err k → refusal_number k ≤ 23) → line (mapping_words d rows run n m) ≡ due → ⊥
unfolding line spaced
mapping_due d rows run n (Ok Eof) h e = let f : ◌≡◌ {A = ℕ} 0x65 0x72 = ap (λ (x : List ℕ). get_or x 0 0) e in absurd (omega (arith, f))
mapping_due d rows run n (Ok (Zero i)) h e = let f : ◌≡◌ {A = ℕ} 0x7A 0x72 = ap (λ (x : List ℕ). get_or x 0 0) e in absurd (omega (arith, f))
mapping_due d rows run n (Ok (Raw i o w)) h e = let f : ◌≡◌ {A = ℕ} 0x61 0x65 = ap (λ (x : List ℕ). get_or x 1 0) e in absurd (omega (arith, f))
mapping_due d rows run n (Err k) h e = refused_number (refusal_number k) _ (h k refl) e

stop_words : (k : Fault) (rest : List ℕ) → stop_text (Err k) ++ rest ≡ spaced (ascii "refused") ++ (spaced (decimal_of (refusal_number k)) ++ (spaced (ascii "0 at") ++ rest))
unfolding field
stop_words k rest =
    append_assoc (spaced (ascii "refused") ++ spaced (decimal_of (refusal_number k))) (spaced (ascii "0 at")) rest
    ∙ append_assoc (spaced (ascii "refused")) (spaced (decimal_of (refusal_number k))) (spaced (ascii "0 at") ++ rest)

stop_due : (s : Result Stop Fault) (rest : List ℕ) → ((k : Fault) → s ≡ Err k → refusal_number k ≤ 23) → stop_text s ++ rest ≡ due → ⊥
unfolding spaced
stop_due (Ok Done) rest h e = let f : ◌≡◌ {A = ℕ} 0x64 0x72 = ap (λ (x : List ℕ). get_or x 0 0) e in absurd (omega (arith, f))
stop_due (Ok More) rest h e = let f : ◌≡◌ {A = ℕ} 0x6D 0x72 = ap (λ (x : List ℕ). get_or x 0 0) e in absurd (omega (arith, f))
stop_due (Err k) rest h e = refused_number (refusal_number k) (spaced (ascii "0 at") ++ rest) (h k refl) (sym (stop_words k rest) ∙ e)

walk_due : (d : List ℕ) (rows : List Row) (ps : List Piece) (s : Result Stop Fault) (rest : List ℕ) → ((k : Fault) → s ≡ Err k → refusal_number k ≤ 23) → lines_to (piece_line d rows) ps (length ps) ++ (stop_text s ++ rest) ≡ due → ⊥
unfolding lines_to lines_from piece_from piece_line line spaced
walk_due d rows [] s rest h e = stop_due s rest h e
walk_due d rows (p ∷ ps) s rest h e = number_first p.start _ (simp append_assoc at e)

opened_due : (d : List ℕ) (c : Command) (t : Table) → Opens d t → said d c ≡ due → ⊥
unfolding walk_lines stop_line
opened_due d Report t o e = report_due d e
opened_due d (Map at long) t o e =
    mapping_due d t.rows _ _ (map_of t at long).mapping (λ k h. (map_numbers t at long k h).1) (sym ((built_written d o.0 t o.1).map at long) ∙ e)
opened_due d (Walks at long places) t o e =
    let w : Walk = walk_of t places at long in
    walk_due d t.rows w.pieces w.stop _ (λ k h. (walk_numbers t places at long k h).1) (sym ((built_written d o.0 t o.1).walk at long places) ∙ e)
opened_due d Usage t o e = let h : ◌≡◌ {A = ℕ} 0 13 = ap length e in absurd (omega (arith, h))

refused_due : (d : List ℕ) (c : Command) (x : Refusal) → RefusedBy d x → said d c ≡ due → ⊥
refused_due d Report x r e = report_due d e
refused_due d (Map at long) x r e = refused_line_lem x (by_23 d x r) (sym ((only_refused d x r).map at long) ∙ e)
refused_due d (Walks at long places) x r e = refused_line_lem x (by_23 d x r) (sym ((only_refused d x r).walk at long places) ∙ e)
refused_due d Usage x r e = let h : ◌≡◌ {A = ℕ} 0 13 = ap length e in absurd (omega (arith, h))

said_due : (d : List ℕ) (c : Command) → said d c ≡ due → ⊥
said_due d c e = either (refused_or_opens d)
  where
    either : ((x : Refusal) × RefusedBy d x) ⊎ ((t : Table) × Opens d t) → ⊥
    either (inl w) = refused_due d c w.0 w.1 e
    either (inr w) = opened_due d c w.0 w.1 e

pub only_long : (d : List ℕ) (c : Command) → (answer_of d c ≡ lines ("refused 24 0" ∷ [])) ↔ (most_input < length d)
only_long d c = (
  λ e. by_test (leb (length d) most_input)
      (λ h. absurd (said_due d c (sym (answer_short d c (leb-true _ _ h)) ∙ e)))
      (λ h. leb-false _ _ h),
  answer_long d c,
)
