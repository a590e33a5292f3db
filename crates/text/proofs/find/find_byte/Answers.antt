-- `find::find_byte` meets its contract: past what is known to differ the byte's first place is that of the whole text.
use native.Mathlib.Omega.{arith}
use mathlib.Core.Path.{◌≡◌, ◌∙◌}
use borrow.Author.Rules.{rules}
use borrow.Author.Tests.{tests}
use Rattle.text.proofs.Finds.{find_beyond, found_none, found_some, found_fits}
use Rattle.text.proofs.Tests.{passed}
use Rattle.text.proofs.find.find_byte.Goals as goal

pub returns-in_err-rest : goal.returns-in_err-rest
returns-in_err-rest c = c.from_residual.ensures ∙ find_beyond _ _ _ (omega (arith, c.in_err-rest.ensures.lookup.0))

pub returns-in_err-more : goal.returns-in_err-more
returns-in_err-more c =
    c.from_residual-in_err-more.ensures ∙ found_none _ _ _ _ c.in_ok-rest.ensures.lookup.0.2 c.past_blocks-at.ensures.inside (passed _ (λ x. x ≡ c.args.b → ⊥) _ _ c.past_blocks-at.ensures.passed (λ x k. search (rules, tests))) c.first_place.ensures c.in_err-more.was

pub overflow_add-result-2 : goal.overflow_add-result-2
overflow_add-result-2 c =
    found_fits _ _ _ _ c.in_ok-rest.ensures.lookup.0.2 c.past_blocks-at.ensures.inside (passed _ (λ x. x ≡ c.args.b → ⊥) _ _ c.past_blocks-at.ensures.passed (λ x k. search (rules, tests))) c.first_place.ensures c.in_ok-more.was (omega arith) c.in_ok-rest.ensures.lookup.0.0

pub returns : goal.returns
returns c =
    found_some _ _ _ _ c.in_ok-rest.ensures.lookup.0.2 c.past_blocks-at.ensures.inside (passed _ (λ x. x ≡ c.args.b → ⊥) _ _ c.past_blocks-at.ensures.passed (λ x k. search (rules, tests))) c.first_place.ensures c.in_ok-more.was
