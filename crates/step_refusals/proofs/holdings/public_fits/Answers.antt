-- `step_refusals::holdings::public_fits` meets its contract: the first word, the public words, then the zeros after them. Assumes nothing.
use Rattle.std.proofs.Common.{arith, ◌≡◌, sym, ap, ap₂, ◌∙◌, Bool, ◌&&◌, map, take, drop, eqb, ltb}
use Rattle.std.proofs.Math.Bool.{and_assoc}
use Rattle.field.specs.Prime.{Prime}
use Rattle.protocol.specs.Refusals.{begins_with_one}
use Rattle.protocol.specs.Session.{all, all_below, public_fits}
use Rattle.step_refusals.proofs.Tests.{joined}
use Rattle.step_refusals.proofs.holdings.public_fits.Goals as goal
use Rattle.step_refusals.proofs.holdings.public_fits.Goals.{Start, Joined-begins_with_one, then-begins_with_one, else-begins_with_one}

module _ (q : Prime) (s : Start) where
  -- the tests of the first word, of the public words and of the zeros
  abbrev first : Bool
  first = begins_with_one s.args.x.now

  abbrev public : Bool
  public = all_below q (take s.args.n s.args.x.now)

  abbrev zeros : Bool
  zeros = all (map (λ w. eqb w 0) (drop s.args.n s.args.x.now))

  in_order : {v : Bool} → v ≡ ((first && public) && zeros) → v ≡ public_fits q s.args.n s.args.x.now
  unfolding public_fits
  in_order e = e ∙ and_assoc first public zeros

front : (q : Prime) (c : Joined-begins_with_one) → let s = (goal.at.Joined-begins_with_one c).Start in q.p ≡ s.args.p
    → c.if-begins_with_one.value ≡ (first q s && public q s)
front q c e =
    let a = c.args in
    let cut : c.min.result ≡ a.n = omega arith in
    elim c.if-begins_with_one.branch [
      | then-begins_with_one w ↦
          joined _ w.if-begins_with_one.true c.begins_with_one.ensures
          (w.value-is ∙ w.all_below.ensures ∙ ap₂ (λ p l. all (map (λ w. ltb w p) l)) (sym e) (c.split_at.ensures.front ∙ ap (λ k. take k a.x.now) cut))
      | else-begins_with_one w ↦
          joined (public q (goal.at.Joined-begins_with_one c).Start) w.if-begins_with_one.false c.begins_with_one.ensures
          (w.value-is ∙ w.if-begins_with_one.false)
    ]

pub returns-then-all_below : goal.returns-then-all_below
returns-then-all_below c q e =
    let here = goal.at.returns-then-all_below c in
    let a = c.args in
    let cut : c.min.result ≡ a.n = omega arith in
    in_order q here.Start
    (joined _ c.if-all_below.true (front q here.Joined-begins_with_one e)
    (c.all_zero.ensures ∙ ap (λ l. all (map (λ w. eqb w 0) l)) (c.split_at.ensures.back ∙ ap (λ k. drop k a.x.now) cut)))

pub returns-else-all_below : goal.returns-else-all_below
returns-else-all_below c q e =
    let here = goal.at.returns-else-all_below c in
    in_order q here.Start
    (joined (zeros q here.Start) c.if-all_below.false (front q here.Joined-begins_with_one e) c.if-all_below.false)
