-- Words and lines added one after another: a line is its first word with a space, and then the line of the others.
-- Assumes nothing.
use Prim.Native.Nat.{ℕ, suc, ◌+◌, ◌-◌, ◌<◌, min}
use native.Mathlib.Omega.{arith}
use native.Mathlib.Numerals.{add-one}
use mathlib.Core.List.{List, [], ◌∷◌, ◌++◌, append_assoc}
use mathlib.Core.Path.{◌≡◌, refl, sym, ◌∙◌}
use lib.ListN.{length, take, drop, get_or, length-drop, length-take}
use lib.Seq.{take_all, take-suc}
use Rattle.std.proofs.lemmas.List.{take_min, drop_min}
use Rattle.lines.specs.declared.record.Text.{Text}
use Rattle.puts.specs.Decimal.{decimal_of}
use Rattle.phrases.specs.Line.{spaced, ended, field, line, lines_from, name_in}
use Rattle.phrases.specs.Adding.{closed, closed_field, Adds}
use Rattle.phrases.specs.inside.Ending.{end_byte}
use Rattle.phrases.specs.declared.line.Answer.{Answer}
use Rattle.phrases.specs.declared.line.End.{End}
use Rattle.phrases.specs.declared.line.End.TheVariants.{Word, Line}
use Rattle.puts.proofs.Puts.{put_then, joins, pasted_twice, after_twice}

-- one text and then another
pub adds_then : {a b c : Answer} {x y : List ℕ} → Adds a x b → Adds b y c → Adds a (x ++ y) c
adds_then h k = record { same = k.same ∙ h.same; put = put_then h.put k.put }

-- what a word, a field and a line are, put one after the other
pub closed_is : (end : End) (w : List ℕ) → closed end w ≡ w ++ (end_byte end ∷ [])
unfolding spaced ended
closed_is Word w = refl
closed_is Line w = refl

pub field_is : (end : End) (w : List ℕ) (n : ℕ) → closed_field end w n ≡ spaced w ++ closed end (decimal_of n)
unfolding field line
field_is Word w n = refl
field_is Line w n = refl

pub ruleset words = (joins, closed_is, field_is)

pub line_last : (w : List ℕ) → line (w ∷ []) ≡ ended w
unfolding line
line_last w = refl

pub line_more : (w v : List ℕ) (ws : List (List ℕ)) → line (w ∷ v ∷ ws) ≡ spaced w ++ line (v ∷ ws)
unfolding line
line_more w v ws = refl

pub line_field : (w : List ℕ) (n : ℕ) (v : List ℕ) (ws : List (List ℕ)) → line (w ∷ decimal_of n ∷ v ∷ ws) ≡ field w n ++ line (v ∷ ws)
unfolding line field
line_field w n v ws = sym (append_assoc (spaced w) (spaced (decimal_of n)) (line (v ∷ ws)))

-- the last of these, where `grind` gives up before the letters of a long word
pub adds_field : {a b c : Answer} (w : List ℕ) (n : ℕ) (v : List ℕ) (ws : List (List ℕ)) → Adds a (field w n) b → Adds b (line (v ∷ ws)) c → Adds a (line (w ∷ decimal_of n ∷ v ∷ ws)) c
adds_field w n v ws h k = rw (line_field w n v ws) (adds_then h k)

pub ruleset fields = (pasted_twice, after_twice, line_field)

pub ruleset lines = (fields, line_last, line_more)

-- The rule of `name`
pub name_part : (d : List ℕ) (t : Text) {m n : ℕ} → m ≡ min t.place (length d) → n ≡ min t.length (length (take (length d - m) (drop m d))) → take n (take (length d - m) (drop m d)) ≡ name_in d t
unfolding name_in
name_part d t {m} {n} e f =
    let r : take (length d - m) (drop m d) ≡ drop m d = take_all (length d - m) (drop m d) (simp length-drop (omega arith)) in
    rw (f, r, take_min, e, drop_min)

pub ruleset names = (name_part)

-- ---- the lines of a list's elements
append_nil : (x : List ℕ) → x ++ [] ≡ x
append_nil [] = refl
append_nil (b ∷ x) = rw (append_nil x)

-- the lines of one element more
lines_more : {A : Type 0} (f : ℕ → A → List ℕ) (k : ℕ) (xs : List A) (x : A) → lines_from f k (xs ++ (x ∷ [])) ≡ lines_from f k xs ++ f (k + length xs) x
unfolding lines_from
lines_more f k [] x = let e : k + 0 ≡ k = omega arith in rw e (append_nil (f k x))
lines_more f k (y ∷ xs) x =
    let e : suc k + length xs ≡ k + suc (length xs) = omega arith in
    rw (lines_more f (suc k) xs x, append_assoc, e)

-- a loop that adds the lines of a slice's elements adds one more at each turn
pub lines_next : {A : Type 0} (f : ℕ → A → List ℕ) (xs : List A) (i : ℕ) (none : A) → i < length xs → lines_from f 0 (take (i + 1) xs) ≡ lines_from f 0 (take i xs) ++ f i (get_or xs i none)
lines_next f xs i none j =
    let e : 0 + length (take i xs) ≡ i = simp length-take (omega arith) in
    rw (add-one, take-suc xs i none j, lines_more f 0 (take i xs) (get_or xs i none), e)
