-- `index::interpolate_four` meets its contract. Assumes nothing.
use mathlib.Core.Path.{◌≡◌, sym, ap, ◌∙◌, subst⁻¹}
use Prim.Native.Nat.{ℕ, ◌≤◌}
use lib.ListN.{length}
use mathlib.Core.Bool.{true}
use Rattle.domain.specs.Size.{is_size}
use Rattle.poly.proofs.LentParts.{part_order}
use Rattle.transform.specs.Reading.{CoefficientTables}
use Rattle.index.proofs.interpolate_four.Goals as goal

-- what is asked of a list as long as the first
size_of : {m n : ℕ} → m ≡ n → is_size n ≡ true → is_size m ≡ true
size_of e h = ap is_size e ∙ h

bounds_of : {m n a b : ℕ} → m ≡ n → (n ≤ a) × (n ≤ b) → (m ≤ a) × (m ≤ b)
bounds_of e h = (part_order (sym e) h.0, part_order (sym e) h.1)

pub interpolate_in_place-requires-2 : goal.interpolate_in_place-requires-2
interpolate_in_place-requires-2 c =
    let e = c.requires.index_lengths.col-length in
    record {
      lt_p = c.requires.lt_p;
      out_value = size_of e c.requires.row_value;
      out_in_bounds = bounds_of e c.requires.row_in_bounds;
    }

pub interpolate_in_place-requires-3 : goal.interpolate_in_place-requires-3
interpolate_in_place-requires-3 c =
    let e = c.requires.index_lengths.rowcol-length in
    record {
      lt_p = c.requires.lt_p;
      out_value = size_of e c.requires.row_value;
      out_in_bounds = bounds_of e c.requires.row_in_bounds;
    }

pub interpolate_in_place-requires-4 : goal.interpolate_in_place-requires-4
interpolate_in_place-requires-4 c =
    let e = c.requires.index_lengths.rowcolval-length in
    record {
      lt_p = c.requires.lt_p;
      out_value = size_of e c.requires.row_value;
      out_in_bounds = bounds_of e c.requires.row_in_bounds;
    }

pub returns : goal.returns
returns c q known tables =
    let a = c.args in
    let lengths = c.requires.index_lengths in
    let at : (m : ℕ) → m ≡ length a.row.now → CoefficientTables q m a.powers.now a.quotients.now =
    λ m e. subst⁻¹ (λ (m : ℕ). CoefficientTables q m a.powers.now a.quotients.now) e tables in (
      c.interpolate_in_place.ensures q known tables,
      c.interpolate_in_place-2.ensures q known
          (at _ lengths.col-length),
      c.interpolate_in_place-3.ensures q known
          (at _ lengths.rowcol-length),
      c.interpolate_in_place-4.ensures q known (at _ lengths.rowcolval-length),
    )
