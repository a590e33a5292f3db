-- The digits of a number, read by the number rule, are the number: each digit counts ten times what the digits before it say.
-- Assumes nothing.
use Rattle.std.specs.Prelude.{Some}
use Prim.Native.Nat.{ℕ, zero, suc, ◌+◌, ◌-◌, ◌*◌, ◌/◌, ◌%◌, ◌^◌, ◌≤◌, ◌<◌}
use native.Mathlib.Omega.{arith}
use native.Mathlib.Nat.{pow-zero, pow-succ', mul_assoc, mul_comm}
use mathlib.Core.List.{List, [], ◌∷◌, ◌++◌}
use mathlib.Core.Bool.{true, false}
use mathlib.Core.Logic.{inl}
use mathlib.Core.Path.{◌≡◌, refl, sym, ◌∙◌}
use lib.ListN.{length, get_or, length-append, get_or-append}
use borrow.Author.Tests.{ltb-true, ltb-false, le-leb}
use lib.Dec.{ltb}
use Rattle.text.specs.Number.{digit as is_digit, all_digits, value, number_of}
use Rattle.text.specs.Sector.{largest}
use Rattle.text.proofs.Flat.{by_test, within_in}
use Rattle.text.proofs.Numerals.{number_in}
use Rattle.puts.specs.Decimal.{digit, digits_in, decimal_of}

-- a digit's byte is one
digit_is : (n : ℕ) → is_digit (digit (n % 10)) ≡ true
digit_is n = within_in 0x30 0x39 (digit (n % 10)) (omega arith) (omega arith)

all_snoc : (xs : List ℕ) (b : ℕ) → all_digits xs ≡ true → is_digit b ≡ true → all_digits (xs ++ (b ∷ [])) ≡ true
unfolding all_digits
all_snoc [] b h d = rw d
all_snoc (x ∷ xs) b h d =
    by_test (is_digit x)
    (λ e. rw e (all_snoc xs b (rw e at h) d))
    (λ e. let g : false ≡ true = rw e at h in let z : ◌≡◌ {A = ℕ} 0 1 = cc in absurd (omega arith))

-- one digit more: ten times the value, and the digit
value_snoc : (xs : List ℕ) (b : ℕ) → value (xs ++ (b ∷ [])) ≡ value xs * 10 + (b - 0x30)
unfolding value
value_snoc [] b = omega (arith, pow-zero 10)
value_snoc (x ∷ xs) b =
    let l : length (xs ++ (b ∷ [])) ≡ suc (length xs) = simp length-append (omega arith) in
    let p : (x - 0x30) * 10 ^ suc (length xs) ≡ (x - 0x30) * 10 ^ length xs * 10 =
    rw (pow-succ' 10 (length xs), mul_comm 10 (10 ^ length xs), ← mul_assoc (x - 0x30) (10 ^ length xs) 10) in
    rw (l, p, value_snoc xs b) (omega arith)

all_in : (k n : ℕ) → all_digits (digits_in k n) ≡ true
unfolding digits_in all_digits
all_in zero n = rw (digit_is n)
all_in (suc k) n =
    by_test (ltb n 10)
    (λ e. rw (e, digit_is n))
    (λ e. rw e (all_snoc (digits_in k (n / 10)) (digit (n % 10)) (all_in k (n / 10)) (digit_is n)))

long_in : (k n : ℕ) → 0 < length (digits_in k n)
unfolding digits_in
long_in zero n = omega arith
long_in (suc k) n =
    by_test (ltb n 10) (λ e. rw e (omega arith)) (λ e. rw (e, length-append) (omega arith))

value_in : (k n : ℕ) → n ≤ k → value (digits_in k n) ≡ n
unfolding digits_in value
value_in zero n h = omega (arith, pow-zero 10)
value_in (suc k) n h =
    by_test (ltb n 10)
    (λ e. rw e (omega (arith, pow-zero 10, ltb-true n 10 e)))
    (λ e. let l = ltb-false n 10 e in
    rw (e, value_snoc (digits_in k (n / 10)) (digit (n % 10)), value_in k (n / 10) (omega arith)) (omega arith))

-- no zero leads, but in 0 itself
first_in : (k n : ℕ) → n ≤ k → get_or (digits_in k n) 0 0 ≡ 0x30 → n ≡ 0
unfolding digits_in
first_in zero n h f = omega arith
first_in (suc k) n h f =
    by_test (ltb n 10)
    (λ e. let g : digit (n % 10) ≡ 0x30 = rw e at f in omega (arith, ltb-true n 10 e))
    (λ e. let l = ltb-false n 10 e in
    let w : 0 < length (digits_in k (n / 10)) = long_in k (n / 10) in
    let g : get_or (digits_in k (n / 10)) 0 0 ≡ 0x30 = sym (get_or-append (digits_in k (n / 10)) (digit (n % 10) ∷ []) 0 0 w) ∙ rw e at f in
    let z : n / 10 ≡ 0 = first_in k (n / 10) (omega arith) g in
    absurd (omega arith))

pub reads_back : (n : ℕ) → n ≤ largest → number_of largest (decimal_of n) ≡ Some n
unfolding decimal_of
reads_back n h =
    number_in largest (digits_in n n) (digits_in n n) (long_in n n, all_in n n, inl refl)
    ∙ rw (value_in n n (omega arith), le-leb n largest h)

pub no_leading_zero : (n : ℕ) → get_or (decimal_of n) 0 0 ≡ 0x30 → n ≡ 0
unfolding decimal_of
no_leading_zero n h = first_in n n (omega arith) h
