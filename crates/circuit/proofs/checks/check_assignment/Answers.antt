-- `circuit::checks::check_assignment` meets its contract. Assumes nothing.
use mathlib.Core.Path.{◌≡◌, refl, sym, ◌∙◌, subst⁻¹}
use mathlib.Core.List.{List}
use Prim.Native.Nat.{ℕ}
use lib.ListN.{length, take, replicate}
use lib.Seq.{length-take-le}
use Rattle.circuit.specs.Given.{EachWithin}
use Rattle.circuit.proofs.checks.check_assignment.Goals as goal

-- an array as it is made
abbrev zeros : List ℕ
zeros = replicate 1024 0

pub check_sums-requires : goal.check_sums-requires
check_sums-requires c =
    let lists = c.args.circuit.now.matrices in
    let same : length (take c.args.circuit.now.r zeros) ≡ c.args.circuit.now.r = length-take-le c.args.circuit.now.r zeros c.requires.r_le_max_size in record {
      p_nonzero = c.requires.p_nonzero;
      right_len = (refl, refl);
      each_within = subst⁻¹ (λ (n : ℕ). EachWithin n (length c.args.z.now) lists.a.now lists.b.now lists.c.now) same c.requires.each_within;
    }

pub returns : goal.returns
returns c q e k rows matrices =
    c.check_sums.ensures q e k (rows ∙ sym (length-take-le c.args.circuit.now.r zeros c.requires.r_le_max_size)) matrices
