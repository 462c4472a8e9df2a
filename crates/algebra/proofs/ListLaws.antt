-- Laws of lists: a part between two others, a store past the seam of two lists, and lists that `tabulate` makes: by rules that agree, one
-- after the other, and with a store into them. Assumes nothing.
use mathlib.Core.Path.{◌≡◌, refl, sym, ap, ap₂, ◌∙◌, fun_ext}
use mathlib.Core.Logic.{◌≢◌}
use mathlib.Core.List.{List, [], ◌∷◌, ◌++◌, append_assoc}
use Prim.Native.Nat.{ℕ, zero, suc, ◌+◌, ◌<◌}
use native.Mathlib.Nat.{zero-add, suc-add, suc_inj}
use native.Mathlib.Omega.{arith}
use lib.ListN.{length, take, drop, set, length-append}
use lib.Seq.{take_at, drop_at, slice}
use Rattle.algebra.specs.Lists.{tabulate}

-- the part between p and r
pub slice_at :
    {T : Type 0} (p m r : List T) (from to : ℕ) → length p ≡ from → from + length m ≡ to → slice from to (p ++ (m ++ r)) ≡ m
slice_at p m r from to start end =
    ap (drop from) (ap (take to) (sym (append_assoc p m r)) ∙ take_at (p ++ m) r to (omega (arith, length-append p m))) ∙ drop_at p m from start

-- a store into the second of two lists
pub set_append_add : {T : Type 0} (l k : List T) (n : ℕ) (a : T) → set (l ++ k) (length l + n) a ≡ l ++ set k n a
set_append_add [] k n a = ap (λ (i : ℕ). set k i a) (zero-add n)
set_append_add {T} (x ∷ l) k n a =
    ap (λ (i : ℕ). set (x ∷ (l ++ k)) i a) (suc-add (length l) n) ∙ ap (λ (r : List T). x ∷ r) (set_append_add l k n a)

-- a store of v into what the rule f gives: g gives v at i, and elsewhere what f gives
pub set-tabulate :
    {T : Type 0} (n i : ℕ) (f g : ℕ → T) (v : T) → i < n → g i ≡ v → ((k : ℕ) → k ≢ i → g k ≡ f k) → set (tabulate n f) i v ≡ tabulate n g
set-tabulate zero i f g v l here others = absurd (omega arith)
set-tabulate (suc n) zero f g v l here others =
    ap₂ ◌∷◌ (sym here) (ap (tabulate n) (fun_ext (λ k. sym (others (suc k) (λ e. omega arith)))))
set-tabulate (suc n) (suc i) f g v l here others =
    ap₂ ◌∷◌ (sym (others 0 (λ e. omega arith)))
    (set-tabulate n i (λ k. f (suc k)) (λ k. g (suc k)) v (omega arith) here (λ k other. others (suc k) (λ e. other (suc_inj e))))

-- two rules that agree below n
pub tabulate_ext : {T : Type 0} (n : ℕ) (f g : ℕ → T) → ((i : ℕ) → i < n → f i ≡ g i) → tabulate n f ≡ tabulate n g
tabulate_ext zero f g same = refl
tabulate_ext (suc n) f g same =
    ap₂ ◌∷◌ (same 0 (omega arith)) (tabulate_ext n (λ i. f (suc i)) (λ i. g (suc i)) (λ i l. same (suc i) (omega arith)))

-- the first m members of a list made by a rule, then the others
pub tabulate_append : {T : Type 0} (m n : ℕ) (f : ℕ → T) → tabulate m f ++ tabulate n (λ i. f (m + i)) ≡ tabulate (m + n) f
tabulate_append zero n f = rw zero-add (tabulate_ext n _ f (λ i l. rw zero-add refl))
tabulate_append (suc m) n f =
    rw suc-add
    (ap (λ l. f 0 ∷ l)
    (ap (λ l. tabulate m (λ i. f (suc i)) ++ l) (tabulate_ext n _ _ (λ i l. rw suc-add refl)) ∙ tabulate_append m n (λ i. f (suc i))))
