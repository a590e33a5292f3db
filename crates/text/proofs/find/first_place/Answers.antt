use borrow.Author.Rules.{rules}
use borrow.Author.Tests.{tests}
use mathlib.Core.Path.{◌≡◌}
use Rattle.std.proofs.lemmas.Iterator.{IsFirst-from_position, YieldsList-from_slice}
use Rattle.text.proofs.Finds.{first_is}
use Rattle.text.proofs.find.first_place.Goals as goal

pub returns : goal.returns
returns c = first_is c.args.b c.args.t.now _ (IsFirst-from_position _ _ _ (λ x. x ≡ c.args.b) (λ x. x ≡ c.args.b → ⊥) c.position.ensures.ran (YieldsList-from_slice c.args.t.now cc) (λ x q k. search (rules, tests)) (λ x q k. search (rules, tests)))
