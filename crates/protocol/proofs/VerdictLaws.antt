-- What each verdict says of the three equations. Assumes nothing.
use mathlib.Core.Path.{◌≡◌, refl}
use mathlib.Core.Bool.{Bool, true, false}
use mathlib.Core.List.{List}
use Rattle.algebra.specs.Lists.{pick}
use Rattle.field.specs.Prime.{Prime}
use Rattle.field.specs.Element.{Elem}
use Rattle.field.proofs.Field.{equal-true, equal-false, true-equal}
use Rattle.protocol.specs.Circuit.{Sizes}
use Rattle.protocol.specs.Checks.{Transcript, Openings, Accept, Fails, Row, Line, Matrix, Holds, passes, verdict}
use Rattle.protocol.specs.Demand2.{Says, VerdictMeans}

module _ {q : Prime} (s : Sizes) (x : List (Elem q)) (t : Transcript (Elem q)) (o : Openings (Elem q)) where
  by_tests :
      (row line matrix : Bool) → passes s x t o Row ≡ row → passes s x t o Line ≡ line → passes s x t o Matrix ≡ matrix
      → Says q s x t o (pick row (pick line (pick matrix Accept (Fails Matrix)) (Fails Line)) (Fails Row))
  unfolding pick
  by_tests true true true r l m = (equal-true _ _ r, equal-true _ _ l, equal-true _ _ m)
  by_tests true true false r l m = (equal-true _ _ r, equal-true _ _ l, equal-false _ _ m)
  by_tests true false matrix r l m = (equal-true _ _ r, equal-false _ _ l)
  by_tests false line matrix r l m = equal-false _ _ r

  -- where the three equations hold, the verdict is Accept
  pub accepts : Holds s x t o Row → Holds s x t o Line → Holds s x t o Matrix → verdict s x t o ≡ Accept
  unfolding verdict pick
  accepts row line matrix = rw (true-equal _ _ row, true-equal _ _ line, true-equal _ _ matrix) refl

pub verdict_means : (q : Prime) → VerdictMeans q
unfolding verdict
verdict_means q s x t o = by_tests s x t o _ _ _ refl refl refl
