-- What a call that was let through gives to rounds 4 and 5, and lists of the rows and of the columns that an array lends. Assumes nothing.
use mathlib.Core.Path.{◌≡◌, refl, sym, ap, ◌∙◌, subst}
use mathlib.Core.Bool.{true}
use mathlib.Core.List.{List, ◌∷◌}
use Prim.Native.Nat.{ℕ, ◌≤◌}
use lib.ListN.{length, take}
use borrow.Author.Tests.{not-true}
use Rattle.algebra.specs.Counting.{All}
use Rattle.field.specs.Prime.{Prime}
use Rattle.field.specs.Element.{Elem, of, words}
use Rattle.domain.specs.Size.{is_size}
use Rattle.domain.specs.Domain.{inside}
use Rattle.domain.specs.Qualifies.{Qualifies}
use Rattle.domain.specs.Known.{Known}
use Rattle.protocol.specs.Three.{MatrixName, A, B, C, at}
use Rattle.protocol.specs.Calls.{entries_of, circuit_of}
use Rattle.circuit.specs.Given.{given, Fits, Within, EachWithin, EntryWords, CircuitShaped}
use Rattle.circuit.proofs.Fitting.{point_tests}
use Rattle.domain.proofs.SizeLaws.{size_positive}
use Rattle.poly.proofs.LentParts.{array, returned, lent_length, back_is}
use Rattle.matrix_sumcheck.specs.MatrixGiven.{Given, Challenged, EntriesWithin, ThreeWithin, lists}

-- challenges outside R and C
pub challenged : {p r c x : ℕ} {ea eb ec z m : List ℕ} → Fits p r c x ea eb ec z m → {q : Prime} (α β : ℕ) (rest : List ℕ)
    → All (λ t. t ≡ true) (point_tests r c x ea eb ec q (α ∷ β ∷ rest))
    → Challenged q p (circuit_of (given r c x ea eb ec)) α β
unfolding circuit_of
challenged {r = r} {c} F {q} α β rest outside =
    record {
      well_formed = F.well_formed;
      α-outside = not-true (inside {q = q} r (of α)) outside.0;
      β-outside = not-true (inside {q = q} c (of β)) outside.1.0;
    }

-- one matrix of the circuit
pub matrix-given : {q : Prime} {p : ℕ} → Known q p → Qualifies q → (r c x : ℕ) (ea eb ec : List ℕ) (M : MatrixName)
    → Given q p r c (at (lists ea eb ec) M) (circuit_of (given r c x ea eb ec)) M
unfolding circuit_of
matrix-given known Q r c x ea eb ec A = record { known = known; qualifies = Q; rows = refl; columns = refl; matrix = refl }
matrix-given known Q r c x ea eb ec B = record { known = known; qualifies = Q; rows = refl; columns = refl; matrix = refl }
matrix-given known Q r c x ea eb ec C = record { known = known; qualifies = Q; rows = refl; columns = refl; matrix = refl }

-- entries within a matrix of r rows and c columns, where lists of them have m words and n words
pub entries-within : {r c m n : ℕ} {l : List ℕ} → is_size r ≡ true → is_size c ≡ true → EntryWords l → All (Within r c) (entries_of l)
    → r ≡ m → c ≡ n → EntriesWithin m n l
entries-within {r} {c} {m} {n} {l} R-size C-size whole within rows columns =
    subst (λ (m : ℕ). EntriesWithin m n l) rows
    (subst (λ (n : ℕ). EntriesWithin r n l) columns
    (record { words = whole; within = within; some-row = size_positive r R-size; some-column = size_positive c C-size }))

pub three-within : {r c m n : ℕ} {ea eb ec : List ℕ} → CircuitShaped r c ea eb ec → EachWithin r c ea eb ec → r ≡ m → c ≡ n
    → ThreeWithin m n ea eb ec
three-within shape within rows columns =
    record {
      in_a = entries-within shape.R-size shape.C-size shape.lists.list-a within.in_a rows columns;
      in_b = entries-within shape.R-size shape.C-size shape.lists.list-b within.in_b rows columns;
      in_c = entries-within shape.R-size shape.C-size shape.lists.list-c within.in_c rows columns;
    }

-- a list that an array lent to be filled by its length, read back
pub lent-list : {q : Prime} (f : ℕ → List (Elem q)) {n : ℕ} (fits : n ≤ 1024) (l : List ℕ) → length l ≡ length (take n (array 1024))
    → l ≡ words (f (length (take n (array 1024)))) → take n (returned 1024 n l) ≡ words (f n)
lent-list f fits l kept made = back_is 1024 fits l kept ∙ made ∙ ap (λ (m : ℕ). words (f m)) (sym (lent_length 1024 fits))
