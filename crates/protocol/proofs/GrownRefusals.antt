-- What is not there in a circuit's memory, whether calls made it or not: a row past its domain, a matrix above 2. Assumes nothing.
use mathlib.Core.Path.{◌≡◌, refl, ap, ◌∙◌}
use mathlib.Core.Bool.{Bool, false, ◌&&◌, and-false}
use mathlib.Core.List.{List, [], ◌∷◌}
use Prim.Native.Nat.{ℕ, ◌+◌, ◌*◌, ◌<◌}
use lib.Dec.{ltb}
use lib.ListN.{get_or}
use native.Mathlib.Omega.{arith}
use borrow.Author.Tests.{le-ltb}
use Rattle.field.specs.Prime.{Prime}
use Rattle.domain.specs.Size.{max_size}
use Rattle.protocol.specs.Circuit.{Entry}
use Rattle.protocol.specs.Calls.{circuit_of}
use Rattle.protocol.specs.Refusals.{Refused, judged, refuse, list_refusal}
use Rattle.protocol.specs.Grown.{entries_place, row_start, row_length, grown_lists, grown_circuit, has_row, vacant_refusal, add_refusal}
use Rattle.protocol.specs.Grown.{add_entry_call, remove_entry_call, find_row_call}

-- "a row past its domain is 7"
pub row_past : (w : List ℕ) (n i : ℕ) → ¬ (i < (grown_circuit w).|R|) → find_row_call w n i ≡ Refused (record { number = 7; position = 0 })
unfolding find_row_call has_row grown_lists circuit_of
row_past w n i past =
    let within : Bool = ltb n 3 && ltb i max_size in
    let missing : has_row w n i ≡ false = ap (λ (b : Bool). within && b) (le-ltb i (get_or w 0 0) (omega (arith, past))) ∙ and-false within in
    ap (λ (b : Bool). judged (refuse 7 0 (b ∷ [])) (entries_place n + 3 * row_start w n i, 3 * row_length w n i)) missing

-- a number above 2 names no matrix
module _ (w : List ℕ) (n : ℕ) (past : ¬ (n < 3)) where
  missing : ltb n 3 ≡ false
  missing = le-ltb n 3 (omega (arith, past))

  pub no_room : (q : Prime) (e : Entry) → add_entry_call q w n e ≡ Refused (record { number = 5; position = 0 })
  unfolding add_entry_call add_refusal list_refusal
  no_room q e = rw missing refl

  pub no_entry_lem : (i j : ℕ) → remove_entry_call w n i j ≡ Refused (record { number = 14; position = 0 })
  unfolding remove_entry_call vacant_refusal
  no_entry_lem i j = rw missing refl

  pub no_row : (i : ℕ) → find_row_call w n i ≡ Refused (record { number = 7; position = 0 })
  unfolding find_row_call has_row
  no_row i = rw missing refl
