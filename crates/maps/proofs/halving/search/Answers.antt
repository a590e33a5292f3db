-- A look leads to the rows after the middle one, to those before it, or ends the search there, as the definition's does.
use Rattle.std.proofs.Common.{ℕ, ◌≡◌, ◌+◌, ◌/◌, ◌<◌, ◌∙◌, ap, arith}
use Rattle.maps.specs.Map.{middle}
use Rattle.maps.specs.inside.Halving.{found_of}
use Rattle.maps.proofs.Halves.{on_start, on_after, on_before, on_hit, on_none}
use Rattle.maps.proofs.halving.search.Goals as goal
use Rattle.maps.proofs.halving.search.Goals.{then-offset, else-offset+then-offset-2}

mid : (lo hi : ℕ) → lo < hi → (lo + hi) / 2 ≡ middle lo hi
mid lo hi l = omega arith

pub loop-lo-init : goal.loop-lo-init
loop-lo-init c = record {
  within = c.requires;
  few = omega arith;
  same = on_start c.args.t.now c.args.offset;
}

pub loop-lo-preserved : goal.loop-lo-preserved
loop-lo-preserved c =
    let s = c.loop-lo in
    let l : s.lo < s.hi = c.loop-lo-test.true in
    let m : (s.lo + s.hi) / 2 ≡ middle s.lo s.hi = mid s.lo s.hi l in
    elim c.if-offset.branch [
      | then-offset w ↦ rw (w.lo-is, w.hi-is) (record {
        within = s.invariant.within;
        few = omega (arith, s.invariant.few, l);
        same = on_after c.args.t.now.rows s.lo s.hi c.args.offset s.looked ((s.lo + s.hi) / 2) l m (omega arith) ∙ s.invariant.same;
      })
      | else-offset+then-offset-2 w ↦ rw (w.lo-is, w.hi-is) (record {
        within = omega (arith, s.invariant.within, l);
        few = omega (arith, s.invariant.few, l);
        same = on_before c.args.t.now.rows s.lo s.hi c.args.offset s.looked ((s.lo + s.hi) / 2) l m (omega arith) (omega arith) ∙ s.invariant.same;
      })
    ]

pub returns-else-offset-2 : goal.returns-else-offset-2
returns-else-offset-2 c =
    let s = c.loop-lo in
    let l : s.lo < s.hi = c.loop-lo-test.true in
    ap (found_of c.args.t.now.rows) (on_hit c.args.t.now.rows s.lo s.hi c.args.offset s.looked ((s.lo + s.hi) / 2) l (mid s.lo s.hi l) (omega arith) (omega arith) ∙ s.invariant.same)

pub returns : goal.returns
returns c =
    let s = c.loop-lo in
    ap (found_of c.args.t.now.rows) (on_none c.args.t.now.rows s.lo s.hi c.args.offset s.looked c.loop-lo-test.false ∙ s.invariant.same)
