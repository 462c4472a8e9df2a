-- Remainders of products. Assumes nothing.
use Rattle.std.proofs.Common.{◌≡◌, ℕ, ◌+◌, ◌*◌, ◌/◌, ◌%◌, sym, ap, ◌∙◌, mul_comm, add-mul, div-add-mod', mul_right_comm}
use native.Mathlib.Nat.{mul-add-mod_self_right}

pub mod-mul-mod : (n m k : ℕ) → (n % m * k) % m ≡ (n * k) % m
mod-mul-mod n m k =
    sym (mul-add-mod_self_right (n / m * k) m (n % m * k))
    ∙ ap (λ (x : ℕ). x % m)
    (ap (λ (x : ℕ). x + n % m * k) (mul_right_comm (n / m) k m) ∙ sym (add-mul (n / m * m) (n % m) k) ∙ ap (λ (x : ℕ). x * k) (div-add-mod' n m))

pub mul_mod_mod : (n k m : ℕ) → (n * (k % m)) % m ≡ (n * k) % m
mul_mod_mod n k m =
    ap (λ (x : ℕ). x % m) (mul_comm n (k % m)) ∙ mod-mul-mod k m n ∙ ap (λ (x : ℕ). x % m) (mul_comm k n)
