-- What it means for the code that nothing refuses a turn or an opening: the sizes are allowed, and the public words fit the session.
-- Assumes nothing.
use Rattle.std.proofs.Common.{◌≡◌, sym, arith, Bool, true, false, ◌&&◌, List, [], ◌∷◌, ℕ, ◌≤◌, length}
use Rattle.std.proofs.Math.Option.{none, some}
use Rattle.field.specs.Prime.{Prime}
use Rattle.domain.specs.Size.{max_size}
use Rattle.domain.proofs.SizeLaws.{size_bound}
use Rattle.protocol.specs.Circuit.{Sizes}
use Rattle.protocol.specs.Refusals.{Refusal, six_size_tests, turn_refusal}
use Rattle.protocol.specs.Session.{in_turn, open_refusal}
use Rattle.protocol.proofs.RefusalLaws.{refuse-none, all_true}
use Rattle.protocol.proofs.UnrefusedSteps.{open_passes}
use Rattle.protocol.proofs.AllowedSizes.{allowed, Allowed, in_turn_allowed}

-- by the code's answer on the turn
pub turn_true : (b : Bool) → none ≡ turn_refusal b → b ≡ true
unfolding turn_refusal
turn_true b e = (refuse-none 1 0 (b ∷ []) (sym e)).0

pub turn_allowed : (n stage : ℕ) (s : Sizes) → none ≡ turn_refusal (in_turn n stage s) → Allowed s
turn_allowed n stage s e = in_turn_allowed n stage s (turn_true (in_turn n stage s) e)

-- out of turn, whatever the session holds
pub turn_either : {r : Refusal} (b holds : Bool) → some r ≡ turn_refusal b → some r ≡ turn_refusal (b && holds)
unfolding turn_refusal
turn_either true holds e = cc
turn_either false holds e = e

pub words_fit : (q : Prime) (s : Sizes) (x : List ℕ) → open_refusal q s x ≡ none → length x ≤ max_size
words_fit q s x e =
    let (sized, public) = (open_passes q s x).0 e in
    omega (arith, public.x-length, size_bound s.|X| (allowed s (all_true (six_size_tests s) sized)).X-size)
