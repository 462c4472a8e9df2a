-- `index::interpolate_in_place` meets its contract. Assumes nothing.
use mathlib.Core.Path.{◌≡◌, refl, sym, ap, ◌∙◌, subst}
use mathlib.Core.List.{List, map}
use Prim.Native.Nat.{ℕ}
use native.Mathlib.Omega.{arith}
use lib.ListN.{length, take, drop}
use lib.Seq.{take_at}
use Rattle.field.specs.Element.{of, words}
use Rattle.domain.specs.Size.{is_size}
use Rattle.domain.specs.Polynomial.{interpolate}
use Rattle.domain.proofs.Qualification.{known-qualifies}
use Rattle.domain.proofs.SizeLaws.{size_bound}
use Rattle.poly.proofs.LentParts.{array, part_order}
use Rattle.transform.specs.Reading.{CoefficientTables}
use Rattle.index.proofs.interpolate_in_place.Goals as goal
use Rattle.index.proofs.interpolate_in_place.Goals.{After-copy_front}

-- the first words of the array are the values
copied : (c : After-copy_front) → let l : List ℕ = c.args.out.now in take (length l) c.copy_front.new.out ≡ l
copied c =
    let l : List ℕ = c.args.out.now in
    ap (take (length l)) c.copy_front.ensures ∙ take_at l (drop (length l) (array 1024)) (length l) refl

pub copy_front-requires : goal.copy_front-requires
copy_front-requires c = size_bound _ c.requires.out_value

pub slice_bounds-values-end : goal.slice_bounds-values-end
slice_bounds-values-end c =
    omega (arith, size_bound _ c.requires.out_value, c.copy_front.auto.out)

pub slice_bounds-interpolate_with-end : goal.slice_bounds-interpolate_with-end
slice_bounds-interpolate_with-end c = ap length (sym (copied (goal.at.slice_bounds-interpolate_with-end c).After-copy_front))

pub interpolate_with-requires : goal.interpolate_with-requires
interpolate_with-requires c =
    let f = (goal.at.interpolate_with-requires c).After-copy_front in
    let long = ap length (sym (copied f)) in record {
      lt_p = f.requires.lt_p;
      out_len = (long, ap is_size (sym long) ∙ f.requires.out_value);
      values_in_bounds = (part_order long f.requires.out_in_bounds.0, part_order long f.requires.out_in_bounds.1);
    }

pub returns : goal.returns
returns c q known tables =
    let f = (goal.at.returns c).After-copy_front in
    let a = f.args in
    c.interpolate_with.ensures q (known-qualifies known) known.value
    (subst (λ (m : ℕ). CoefficientTables q m a.powers.now a.quotients.now) (ap length (sym (copied f))) tables)
    ∙ ap (λ l. words (interpolate (length l) (map (of {q = q}) l))) (copied f)
