-- Entries added in one order or another: two additions that are both done are done the other way round, with the same circuit, and so are
-- all in every order. Assumes nothing.
use mathlib.Core.Path.{◌≡◌, refl, sym, ap, ap₂, subst, ◌∙◌}
use mathlib.Core.Logic.{◌⊎◌, inl, inr}
use mathlib.Core.List.{List, ◌∷◌, Permᴰ}
use Prim.Native.Nat.{ℕ}
use native.Mathlib.Omega.{arith}
use Rattle.field.specs.Prime.{Prime}
use Rattle.protocol.specs.Three.{MatrixName, A, B, C, Three, at}
use Rattle.protocol.specs.Circuit.{Entry, Circuit}
use Rattle.protocol.specs.Refusals.{Outcome, Done, Refused, onwards, fits}
use Rattle.protocol.specs.Admission.{Admitted}
use Rattle.protocol.specs.Grown.{stored, add_entry_call}
use Rattle.protocol.specs.Growing.{replace, changed, entries_with, add_all}
use Rattle.protocol.proofs.AdmissionLaws.{Rising, admitted_well_formed}
use Rattle.protocol.proofs.EntryOrder.{length_with, with_with}
use Rattle.protocol.proofs.GrownCalls.{Addable, circuit_with, addition-admitted, adds-entry, added}

-- one of three replaced, and two: the same one, or two that do not see each other
module _ {T : Type 0} (t : Three T) where
  at_replaced : (M : MatrixName) (x : T) → at (replace t M x) M ≡ x
  at_replaced A x = refl
  at_replaced B x = refl
  at_replaced C x = refl

  replaced_again : (M : MatrixName) (x y : T) → replace (replace t M x) M y ≡ replace t M y
  replaced_again A x y = refl
  replaced_again B x y = refl
  replaced_again C x y = refl

  abbrev Apart : MatrixName → MatrixName → T → T → Type 0
  Apart M N x y =
      (at (replace t M x) N ≡ at t N) × ((at (replace t N y) M ≡ at t M) × (replace (replace t M x) N y ≡ replace (replace t N y) M x))

  same_or_apart : (M N : MatrixName) (x y : T) → (M ≡ N) ⊎ Apart M N x y
  same_or_apart A A x y = inl refl
  same_or_apart A B x y = inr (refl, (refl, refl))
  same_or_apart A C x y = inr (refl, (refl, refl))
  same_or_apart B A x y = inr (refl, (refl, refl))
  same_or_apart B B x y = inl refl
  same_or_apart B C x y = inr (refl, (refl, refl))
  same_or_apart C A x y = inr (refl, (refl, refl))
  same_or_apart C B x y = inr (refl, (refl, refl))
  same_or_apart C C x y = inl refl

-- the circuit with other matrices: whether an entry can be added to a list does not depend on them
abbrev around : Circuit → Three (List Entry) → Circuit
around k matrices = record { |R| = k.|R|; |C| = k.|C|; |X| = k.|X|; matrices = matrices }

module _ (q : Prime) (k : Circuit) where
  addable_around :
      (m o : Three (List Entry)) (e : Entry) {l r : List Entry} → l ≡ r → Addable q (around k m) l e → Addable q (around k o) r e
  unfolding fits
  addable_around m o e {l} same can =
      let here : Addable q (around k o) l e = record { room = can.room; word = can.word; fit = can.fit; free = can.free } in
      subst (λ r. Addable q (around k o) r e) same here

  -- the matrices, as they are and with an entry more in one of them
  abbrev three : Three (List Entry)
  three = k.matrices

  abbrev more : MatrixName → Entry → List Entry
  more M e = entries_with e (at three M)

  abbrev three_with : MatrixName → Entry → Three (List Entry)
  three_with M e = replace three M (more M e)

  -- of two additions that are done one after the other, the second can be done first and then the first, and the circuit is the same
  abbrev InOrder : MatrixName → MatrixName → Entry → Entry → Type 0
  InOrder M N d e = Addable q k (at three M) d × Addable q (circuit_with k M d) (at (three_with M d) N) e

  abbrev Swapped : MatrixName → MatrixName → Entry → Entry → Type 0
  Swapped M N d e = InOrder N M e d × (circuit_with (circuit_with k M d) N e ≡ circuit_with (circuit_with k N e) M d)

  -- in one matrix
  with_twice : (M : MatrixName) (d e : Entry) → circuit_with (circuit_with k M d) M e ≡ changed k M (entries_with e (more M d))
  with_twice M d e =
      ap (λ (l : List Entry). changed (circuit_with k M d) M (entries_with e l)) (at_replaced three M (more M d))
      ∙ ap (around k) (replaced_again three M (more M d) (entries_with e (more M d)))

  same_matrix : (M : MatrixName) (d e : Entry) → Rising (at three M) → InOrder M M d e → Swapped M M d e
  same_matrix M d e rising (before, after) =
      let can : Addable q k (more M d) e = addable_around (three_with M d) three e (at_replaced three M (more M d)) after in
      let (free, (free-too, same)) = with_with d e (at three M) rising before.free can.free in
      let first : Addable q k (at three M) e =
      record { room = omega (arith, can.room, length_with d (at three M)); word = can.word; fit = can.fit; free = free } in
      let second : Addable q k (more M e) d =
      record {
        room = omega (arith, can.room, length_with d (at three M), length_with e (at three M));
        word = before.word;
        fit = before.fit;
        free = free-too;
      } in
      let again = addable_around three (three_with M e) d (sym (at_replaced three M (more M e))) second in
      ((first, again), with_twice M d e ∙ ap (changed k M) same ∙ sym (with_twice M e d))

  -- in two
  other_matrix : (M N : MatrixName) (d e : Entry) → Apart three M N (more M d) (more N e) → InOrder M N d e → Swapped M N d e
  other_matrix M N d e (at-N, (at-M, same)) (before, after) =
      let one_way = ap (λ (l : List Entry). changed (circuit_with k M d) N (entries_with e l)) at-N in
      let other_way = ap (λ (l : List Entry). changed (circuit_with k N e) M (entries_with d l)) at-M in
      let first = addable_around (three_with M d) three e at-N after in
      let second = addable_around three (three_with N e) d (sym at-M) before in
      ((first, second), one_way ∙ ap (around k) same ∙ sym other_way)

  swapped : (M N : MatrixName) (d e : Entry) → Rising (at three M) → InOrder M N d e → Swapped M N d e
  swapped M N d e rising = go (same_or_apart three M N (more M d) (more N e))
    where
      go : (M ≡ N) ⊎ Apart three M N (more M d) (more N e) → InOrder M N d e → Swapped M N d e
      go (inl same) = subst (λ N. InOrder M N d e → Swapped M N d e) same (same_matrix M d e rising)
      go (inr apart) = other_matrix M N d e apart

-- the same on memory
module _ (q : Prime) where
  two_additions :
      (k : Circuit) → Admitted q k → (a b : ℕ × Entry) (u v : List ℕ) → add_entry_call q (stored k) a.0 a.1 ≡ Done u
      → add_entry_call q u b.0 b.1 ≡ Done v
      → (x : List ℕ) × ((add_entry_call q (stored k) b.0 b.1 ≡ Done x) × (add_entry_call q x a.0 a.1 ≡ Done v))
  two_additions k admitted a b u v once twice =
      let f = added q k admitted a.0 a.1 u once in
      let M : MatrixName = f.matrix in
      let after : Circuit = circuit_with k M a.1 in
      let s = added q after f.admitted b.0 b.1 v (ap (λ (w : List ℕ). add_entry_call q w b.0 b.1) (sym f.holds) ∙ twice) in
      let N : MatrixName = s.matrix in
      let ((can, can-too), same) = swapped q k M N a.1 b.1 ((admitted_well_formed q k admitted).rising M) (f.can, s.can) in
      let other : Circuit = circuit_with k N b.1 in
      let first : add_entry_call q (stored k) b.0 b.1 ≡ Done (stored other) =
      ap (λ (n : ℕ). add_entry_call q (stored k) n b.1) (sym s.names) ∙ adds-entry q k N admitted b.1 can in
      let second : add_entry_call q (stored other) a.0 a.1 ≡ Done v =
      ap (λ (n : ℕ). add_entry_call q (stored other) n a.1) (sym f.names)
      ∙ adds-entry q other M (addition-admitted q k N admitted b.1 can) a.1 can-too
      ∙ ap Done (ap stored (sym same) ∙ sym s.holds) in
      (stored other, (first, second))

  -- additions that are all done: the first is, and then the others
  onwards-done :
      (f : List ℕ → Outcome (List ℕ)) (o : Outcome (List ℕ)) (next : List ℕ) → onwards f o ≡ Done next
      → (u : List ℕ) × ((o ≡ Done u) × (f u ≡ Done next))
  onwards-done f (Done u) next done = (u, (refl, done))
  onwards-done f (Refused r) next done = let z : ◌≡◌ {A = ℕ} 0 1 = cc in absurd (omega arith)

  pub reordered :
      (entries others : List (ℕ × Entry)) → Permᴰ entries others → (k : Circuit) → Admitted q k → (next : List ℕ)
      → add_all q (stored k) entries ≡ Done next → add_all q (stored k) others ≡ Done next
  reordered entries others Permᴰ.nil k admitted next done = done
  reordered entries others (Permᴰ.cons {a = a} {l₁ = l₁} {l₂ = l₂} same rest) k admitted next done =
      let (u, (once, onward)) = onwards-done (λ w. add_all q w l₁) (add_entry_call q (stored k) a.0 a.1) next done in
      let f = added q k admitted a.0 a.1 u once in
      let after : Circuit = circuit_with k f.matrix a.1 in
      ap (λ (c : ℕ × Entry). add_all q (stored k) (c ∷ l₂)) (sym same)
      ∙ ap (onwards (λ w. add_all q w l₂)) (once ∙ ap Done f.holds)
      ∙ reordered l₁ l₂ rest after f.admitted next (ap (λ (w : List ℕ). add_all q w l₁) (sym f.holds) ∙ onward)
  reordered entries others (Permᴰ.swap {a = a} {b = b} {l = l} same same-too) k admitted next done =
      let (u, (once, onward)) = onwards-done (λ w. add_all q w (b ∷ l)) (add_entry_call q (stored k) a.0 a.1) next done in
      let (v, (twice, last)) = onwards-done (λ w. add_all q w l) (add_entry_call q u b.0 b.1) next onward in
      let (x, (first, second)) = two_additions k admitted a b u v once twice in
      ap₂ (λ (c d : ℕ × Entry). add_all q (stored k) (c ∷ (d ∷ l))) (sym same-too) (sym same)
      ∙ ap (onwards (λ w. add_all q w (a ∷ l))) first
      ∙ ap (onwards (λ w. add_all q w l)) second
      ∙ last
  reordered entries others (Permᴰ.trans {l₂ = middle} there onward) k admitted next done =
      reordered middle others onward k admitted next (reordered entries middle there k admitted next done)
