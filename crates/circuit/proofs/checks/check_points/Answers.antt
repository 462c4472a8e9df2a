-- `circuit::checks::check_points` meets its contract: the points passed are outside their domains. Assumes nothing.
use mathlib.Core.Path.{◌≡◌, sym, ap, ◌∙◌}
use mathlib.Core.Bool.{Bool, true, not}
use mathlib.Core.List.{List, [], ◌∷◌, map}
use Prim.Native.Nat.{ℕ, ◌≤◌, ◌<◌}
use native.Mathlib.Omega.{arith}
use lib.ListN.{length, get_or, length-map}
use Rattle.algebra.proofs.Counting.{all-at}
use Rattle.field.specs.Prime.{Prime}
use Rattle.field.specs.Element.{Elem, of, 𝟘}
use Rattle.domain.specs.Size.{is_size}
use Rattle.domain.specs.Domain.{inside}
use Rattle.domain.specs.Qualifies.{Qualifies}
use Rattle.poly.proofs.WordLists.{element-at}
use Rattle.protocol.specs.Refusals.{challenge_refusal}
use Rattle.protocol.proofs.Rows.{passed_none, passed_turn, passed_stop, passed_end, length_pairs, pairs-at}
use Rattle.circuit.proofs.checks.check_points.Invariants.{tests}
use Rattle.circuit.proofs.checks.check_points.Goals as goal
use Rattle.circuit.proofs.checks.check_points.Goals.{After-is_inside, Start}

-- how many they are, and the test at place i
tests_count : (q : Prime) (ns points : List ℕ) → length points ≤ length ns → length (tests q ns points) ≡ length points
tests_count q ns points h =
    omega (arith, length_pairs (λ (n : ℕ) (y : Elem q). not (inside n y)) ns (map of points), length-map points (of {q = q}))

test_at : (q : Prime) (ns points : List ℕ) (i : ℕ) (b : Bool) → length points ≤ length ns → i < length points
    → b ≡ inside (get_or ns i 0) (of {q = q} (get_or points i 0)) → get_or (tests q ns points) i true ≡ not b
test_at q ns points i b h within e =
    pairs-at (λ (n : ℕ) (y : Elem q). not (inside n y)) ns (map of points) i 0 𝟘 true (omega arith)
    (omega (arith, length-map points (of {q = q})))
    ∙ ap (λ (y : Elem q). not (inside (get_or ns i 0) y)) (sym (element-at points i)) ∙ ap not (sym e)

-- how many tests a call makes, and the one that a turn makes
abbrev due : Prime → Start → List Bool
due q s = tests q (s.args.r ∷ s.args.c ∷ s.args.k ∷ []) s.args.points.now

due-count : (q : Prime) (s : Start) → length (due q s) ≡ length s.args.points.now
due-count q s = tests_count q (s.args.r ∷ s.args.c ∷ s.args.k ∷ []) s.args.points.now s.requires.points_len_bound

turn_test : (c : After-is_inside) (q : Prime) → Qualifies q → q.p ≡ c.args.p
    → get_or (due q (goal.at.After-is_inside c).Start) c.loop-i.i true ≡ not c.is_inside.result
turn_test c q Q e =
    test_at q (c.args.r ∷ c.args.c ∷ c.args.k ∷ []) c.args.points.now c.loop-i.i c.is_inside.result
    c.requires.points_len_bound (omega arith) (c.is_inside.ensures q Q e)

pub loop-i-init : goal.loop-i-init
loop-i-init c = λ q Q e. passed_none 10 0 _

pub is_inside-requires : goal.is_inside-requires
is_inside-requires c =
    let ns : List ℕ = c.args.r ∷ c.args.c ∷ c.args.k ∷ [] in
    let sizes = c.requires.r_value in
    record {
      lt_p = c.requires.lt_p;
      n_value = all-at (λ n. is_size n ≡ true) ns (sizes.0, (sizes.1.0, (sizes.1.1, tt))) c.loop-i.i 0 (omega arith);
    }

pub returns-then-is_inside : goal.returns-then-is_inside
unfolding challenge_refusal
returns-then-is_inside c q Q e =
    let t = (goal.at.returns-then-is_inside c).After-is_inside in
    let l = t.loop-i in
    passed_stop 10 0 (due q (goal.at.After-is_inside t).Start) l.i (l.invariant q Q e) (omega (arith, due-count q (goal.at.After-is_inside t).Start)) true l.i (omega arith)
    (turn_test t q Q e ∙ ap not c.if-is_inside.true)

pub loop-i-preserved : goal.loop-i-preserved
loop-i-preserved c =
    let t = (goal.at.loop-i-preserved c).After-is_inside in
    let l = t.loop-i in
    λ q Q e.
    passed_turn 10 0 (due q (goal.at.After-is_inside t).Start) l.i (l.invariant q Q e) (omega (arith, due-count q (goal.at.After-is_inside t).Start)) true
    (turn_test t q Q e ∙ ap not c.if-is_inside.false)

pub returns : goal.returns
unfolding challenge_refusal
returns c q Q e =
    let s = (goal.at.returns c).Start in
    let l = c.loop-i in
    sym (passed_end 10 0 (due q s) l.i (l.invariant q Q e) (omega (arith, due-count q s)))
