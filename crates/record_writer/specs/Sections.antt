-- The sections of a call to write a record, one after the other, and what refuses the call, as the code goes by it: its sizes and
-- its lengths, then its words. Assumes nothing.
use mathlib.Core.List.{foldr}
use Rattle.std.specs.Prelude.{List, [], ◌∷◌, ◌++◌, map, ℕ, ◌+◌, eqb, ltb}
use Rattle.std.specs.Borrow.{Bor}
use Rattle.std.proofs.Math.Option.{Option}
use Rattle.protocol.specs.Circuit.{Sizes}
use Rattle.protocol.specs.Refusals.{Refusal, first, refuse, pairs, trailer_bytes, six_size_tests, size_refusal, list_refusal}
use Rattle.protocol.specs.Record.{section_lengths, section_bytes}

-- the eleven sections w, m, h0, s, g1, h1, o, ga, gb, gc, h2 of a call to write a record
abbrev pub each_section : List ℕ → List ℕ → List ℕ → List ℕ → List ℕ → List ℕ → List ℕ → List ℕ → List ℕ → List ℕ → List ℕ → List (List ℕ)
each_section w m h0 s g1 h1 o ga gb gc h2 = w ∷ m ∷ h0 ∷ s ∷ g1 ∷ h1 ∷ o ∷ ga ∷ gb ∷ gc ∷ h2 ∷ []

-- the lists that references lead to
abbrev pub lists : List (Bor (List ℕ)) → List (List ℕ)
lists refs = map (λ r. r.now) refs

-- lists one after the other
abbrev pub joined : List (List ℕ) → List ℕ
joined parts = foldr ◌++◌ [] parts

-- 4 and 5: the sizes, the lengths of the sections and of the lent bytes
unfoldable pub length_refusals : Sizes → List ℕ → ℕ → Option Refusal
length_refusals s lengths lent =
    list_refusal (pairs eqb lengths (section_lengths s) ++ (eqb lent (section_bytes s + trailer_bytes) ∷ []))

unfoldable pub shape_refusal : Sizes → List ℕ → ℕ → Option Refusal
shape_refusal s lengths lent = first (size_refusal (six_size_tests s) ∷ length_refusals s lengths lent ∷ [])

-- 6: the first word that is not below the modulus, counted from a start
abbrev pub refuse_words : ℕ → ℕ → List ℕ → Option Refusal
refuse_words p start ws = refuse 6 start (map (λ w. ltb w p) ws)
