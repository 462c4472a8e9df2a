-- Texts put into a buffer one after the other are one text. Assumes nothing.
use mathlib.Core.Path.{◌≡◌, sym, ap, ap₂, ◌∙◌}
use mathlib.Core.List.{List, [], ◌∷◌, ◌++◌, append_assoc}
use Prim.Native.Nat.{ℕ, suc, ◌+◌, ◌<◌, ◌≤◌}
use native.Mathlib.Omega.{arith}
use lib.ListN.{length, take, drop, set, length-append, length-drop, take-append-drop}
use lib.Seq.{length-take-le, take_at, drop_at, drop-drop, set_split}
use Rattle.text.specs.Buffer.{put}
use Rattle.text.specs.Written.{Written}

module _ (b : List ℕ) (at : ℕ) (s : List ℕ) (room : at + length s ≤ length b) where
  -- what stands before the end of the text
  abbrev front : List ℕ
  front = take at b ++ s

  length_front : length front ≡ at + length s
  length_front = length-append (take at b) s ∙ ap (λ n. n + length s) (length-take-le at b (omega arith))

  in_parts : put b at s ≡ front ++ drop (at + length s) b
  unfolding put
  in_parts = sym (append_assoc (take at b) s (drop (at + length s) b))

  pub length-put : length (put b at s) ≡ length b
  length-put =
      ap length in_parts ∙ length-append front (drop (at + length s) b)
      ∙ omega (arith, length_front, length-drop (at + length s) b)

  take_put : take (at + length s) (put b at s) ≡ front
  take_put = ap (take (at + length s)) in_parts ∙ take_at front (drop (at + length s) b) (at + length s) length_front

  drop-put : (n : ℕ) → drop (at + length s + n) (put b at s) ≡ drop (at + length s + n) b
  drop-put n =
      sym (drop-drop n (at + length s) (put b at s))
      ∙ ap (drop n) (ap (drop (at + length s)) in_parts ∙ drop_at front (drop (at + length s) b) (at + length s) length_front)
      ∙ drop-drop n (at + length s) b

  pub put-put : (t : List ℕ) → put (put b at s) (at + length s) t ≡ put b at (s ++ t)
  unfolding put
  put-put t =
      let same : at + length s + length t ≡ at + length (s ++ t) = omega (arith, length-append s t) in
      ap₂ (λ (l m : List ℕ). l ++ (t ++ m)) take_put (drop-put (length t))
      ∙ append_assoc (take at b) s _
      ∙ ap (λ l. take at b ++ l) (sym (append_assoc s t _))
      ∙ ap (λ n. take at b ++ ((s ++ t) ++ drop n b)) same

-- nothing put
pub written_none : (b : List ℕ) (at : ℕ) → at ≤ length b → Written b at [] at b
unfolding put
written_none b at h =
    let same : at + 0 ≡ at = omega arith in
    record {
      room = omega arith;
      next = omega arith;
      result = sym (ap (λ n. take at b ++ drop n b) same ∙ take-append-drop at b);
    }

-- one byte stored
pub written_byte : (b : List ℕ) (at v : ℕ) → at < length b → Written b at (v ∷ []) (at + 1) (set b at v)
unfolding put
written_byte b at v h =
    let same : suc at ≡ at + 1 = omega arith in
    record {
      room = omega arith;
      next = omega arith;
      result = set_split b at v h ∙ ap (λ n. take at b ++ (v ∷ drop n b)) same;
    }

-- a text, and then another
pub written_then : {b c d s t : List ℕ} {at place end : ℕ} → Written b at s place c → Written c place t end d → Written b at (s ++ t) end d
written_then {b} {c} {d} {s} {t} {at} {place} {end} first second =
    let long : length c ≡ length b = ap length first.result ∙ length-put b at s first.room in
    record {
      room = omega (arith, length-append s t, long, first.next, second.room);
      next = omega (arith, length-append s t, first.next, second.next);
      result = second.result ∙ ap₂ (λ (l : List ℕ) (n : ℕ). put l n t) first.result first.next ∙ put-put b at s first.room t;
    }

-- the buffer's length stays
pub written-length : {b c s : List ℕ} {at place : ℕ} → Written b at s place c → length c ≡ length b
written-length {b} {c} {s} {at} w = ap length w.result ∙ length-put b at s w.room

-- the same text by another name
pub written_as : {b c s t : List ℕ} {at place : ℕ} → s ≡ t → Written b at s place c → Written b at t place c
written_as {b} {c} {s} {t} {at} {place} e w = rw e at w
