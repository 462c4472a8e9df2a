-- The bytes of words and the words of bytes: words of 32 bits are read back from their bytes, bytes in whole words are the bytes
-- of such words, and consecutive parts of the bytes of a list of lists are the bytes of its members. Assumes nothing.
use mathlib.Core.Path.{◌≡◌, refl, sym, ap, ap₂, ◌∙◌, fun_ext}
use mathlib.Core.List.{List, [], ◌∷◌, ◌++◌, map, foldr, append_assoc}
use Prim.Native.Nat.{ℕ, zero, suc, ◌+◌, ◌*◌, ◌/◌, ◌%◌, ◌^◌, ◌<◌}
use native.Mathlib.Omega.{arith}
use native.Mathlib.Nat.{div-div-eq-div-mul}
use lib.ListN.{length, get_or, take, drop, length-append, length-drop, take-append-drop}
use lib.Seq.{take_at, drop_at, length-take-le}
use Rattle.algebra.specs.Counting.{All}
use Rattle.algebra.specs.Lists.{tabulate}
use Rattle.algebra.proofs.Counting.{append_all}
use Rattle.protocol.specs.Record.{word_bytes, bytes_of, word_at, words_in, parts_of}

abbrev pub Byte : ℕ → Type 0
Byte b = b < 256

abbrev pub Word : ℕ → Type 0
Word w = w < 2 ^ 32

pub tabulate_getD : {T : Type 0} (l : List T) (d : T) → tabulate (length l) (λ i. get_or l i d) ≡ l
tabulate_getD [] d = refl
tabulate_getD (x ∷ l) d = ap (λ k. x ∷ k) (tabulate_getD l d)

-- dividing by 256 again and again
divided_twice : (w : ℕ) → w / 65536 ≡ w / 256 / 256
divided_twice w = sym (div-div-eq-div-mul w 256 256)

divided_thrice : (w : ℕ) → w / 16777216 ≡ w / 256 / 256 / 256
divided_thrice w = sym (div-div-eq-div-mul w 65536 256) ∙ ap (λ n. n / 256) (divided_twice w)

last_byte : (w a x : ℕ) → Byte a → w ≡ a + 256 * x → (w % 256 ≡ a) × (w / 256 ≡ x)
last_byte w a x h e = omega arith

-- the word of four bytes, as `word_at` makes it
joined : ℕ → ℕ → ℕ → ℕ → ℕ
joined a b c d = a + 256 * b + 65536 * c + 16777216 * d

joined_word_bytes : (w : ℕ) → Word w → joined (w % 256) (w / 256 % 256) (w / 65536 % 256) (w / 16777216 % 256) ≡ w
unfolding joined
joined_word_bytes w h = rw (divided_thrice, divided_twice) (omega arith)

word_bytes_joined : (a b c d : ℕ) → Byte a → Byte b → Byte c → Byte d → word_bytes (joined a b c d) ≡ a ∷ b ∷ c ∷ d ∷ []
unfolding word_bytes joined
word_bytes_joined a b c d ha hb hc hd =
    let w : ℕ = joined a b c d in
    let first = last_byte w a (b + 256 * (c + 256 * d)) ha (omega arith) in
    let second = last_byte (w / 256) b (c + 256 * d) hb first.1 in
    let third = last_byte (w / 256 / 256) c d hc second.1 in
    let fourth = last_byte (w / 256 / 256 / 256) d 0 hd (omega (arith, third.1)) in
    rw (divided_thrice, divided_twice) (cc (first.0, second.0, third.0, fourth.0))

-- past the first four bytes
word_at_later : (a b c d : ℕ) (bytes : List ℕ) (i : ℕ) → word_at (a ∷ b ∷ c ∷ d ∷ bytes) (suc i) ≡ word_at bytes i
unfolding word_at
word_at_later a b c d bytes i = cc (later 0, later 1, later 2, later 3)
  where
    later : (k : ℕ) → get_or (a ∷ b ∷ c ∷ d ∷ bytes) (4 * suc i + k) 0 ≡ get_or bytes (4 * i + k) 0
    later k =
        let e : 4 * suc i + k ≡ suc (suc (suc (suc (4 * i + k)))) = omega arith in
        ap (λ n. get_or (a ∷ b ∷ c ∷ d ∷ bytes) n 0) e

pub length_bytes_of : (ws : List ℕ) → length (bytes_of ws) ≡ 4 * length ws
unfolding bytes_of word_bytes
length_bytes_of [] = refl
length_bytes_of (w ∷ ws) = omega (arith, length_bytes_of ws)

pub bytes_of_append : (l k : List ℕ) → bytes_of (l ++ k) ≡ bytes_of l ++ bytes_of k
unfolding bytes_of word_bytes
bytes_of_append [] k = refl
bytes_of_append (w ∷ l) k = ap (λ bytes. word_bytes w ++ bytes) (bytes_of_append l k)

-- past the end both sides are 0
pub word_at_bytes_of : (ws : List ℕ) → All Word ws → (i : ℕ) → word_at (bytes_of ws) i ≡ get_or ws i 0
unfolding bytes_of word_bytes word_at joined
word_at_bytes_of [] h i = refl
word_at_bytes_of (w ∷ ws) h zero = joined_word_bytes w h.0
word_at_bytes_of (w ∷ ws) h (suc i) =
    word_at_later (w % 256) (w / 256 % 256) (w / 65536 % 256) (w / 16777216 % 256) (bytes_of ws) i ∙ word_at_bytes_of ws h.1 i

pub words_in_bytes_of : (ws : List ℕ) → All Word ws → words_in (bytes_of ws) ≡ ws
unfolding words_in
words_in_bytes_of ws h =
    let count : length (bytes_of ws) / 4 ≡ length ws = omega (arith, length_bytes_of ws) in
    ap₂ tabulate count (fun_ext (word_at_bytes_of ws h)) ∙ tabulate_getD ws 0

pub words_in_each : (parts : List (List ℕ)) → All Word (foldr ◌++◌ [] parts) → map words_in (map bytes_of parts) ≡ parts
words_in_each [] h = refl
words_in_each (part ∷ parts) h =
    let (here, later) = append_all Word part (foldr ◌++◌ [] parts) h in
    ap₂ ◌∷◌ (words_in_bytes_of part here) (words_in_each parts later)

-- words that the bytes are the bytes of
pub record WordsOf (bytes : List ℕ) : Type 0 where
  pub words : List ℕ
  pub fit : All Word words
  pub spell : bytes_of words ≡ bytes

pub whole_words : (n : ℕ) (bytes : List ℕ) → length bytes ≡ 4 * n → All Byte bytes → WordsOf bytes
unfolding bytes_of joined
whole_words zero [] e h = record { words = []; fit = tt; spell = refl }
whole_words zero (a ∷ l) e h = absurd (omega arith)
whole_words (suc n) [] e h = absurd (omega arith)
whole_words (suc n) (a ∷ []) e h = absurd (omega arith)
whole_words (suc n) (a ∷ b ∷ []) e h = absurd (omega arith)
whole_words (suc n) (a ∷ b ∷ c ∷ []) e h = absurd (omega arith)
whole_words (suc n) (a ∷ b ∷ c ∷ d ∷ l) e (ha, (hb, (hc, (hd, hl)))) =
    let rest : WordsOf l = whole_words n l (omega arith) hl in
    record {
      words = joined a b c d ∷ rest.words;
      fit = (omega arith, rest.fit);
      spell = ap₂ ◌++◌ (word_bytes_joined a b c d ha hb hc hd) rest.spell;
    }

-- the bytes that parts of these lengths in words have together
abbrev pub byte_count : List ℕ → ℕ
byte_count l = foldr (λ n total. 4 * n + total) 0 l

pub length-joined : (parts : List (List ℕ)) → 4 * length (foldr ◌++◌ [] parts) ≡ byte_count (map length parts)
length-joined [] = refl
length-joined (part ∷ parts) = omega (arith, length-append part (foldr ◌++◌ [] parts), length-joined parts)

pub parts_of_bytes_of : (parts : List (List ℕ)) (more : List ℕ)
    → parts_of (bytes_of (foldr ◌++◌ [] parts) ++ more) (map length parts) ≡ map bytes_of parts
unfolding parts_of
parts_of_bytes_of [] more = refl
parts_of_bytes_of (part ∷ parts) more =
    let ws : List ℕ = foldr ◌++◌ [] parts in
    let later : List ℕ = bytes_of ws ++ more in
    let n : ℕ = 4 * length part in
    let apart : bytes_of (part ++ ws) ++ more ≡ bytes_of part ++ later = rw (bytes_of_append, append_assoc) in
    ap₂ ◌∷◌ (ap (take n) apart ∙ take_at (bytes_of part) later n (length_bytes_of part))
    (ap (λ bytes. parts_of bytes (map length parts)) (ap (drop n) apart ∙ drop_at (bytes_of part) later n (length_bytes_of part))
    ∙ parts_of_bytes_of parts more)

-- words cut into parts of these lengths
pub cut : List ℕ → List ℕ → List (List ℕ)
cut ws [] = []
cut ws (n ∷ l) = take n ws ∷ cut (drop n ws) l

pub joined_cut : (ws l : List ℕ) → 4 * length ws ≡ byte_count l → foldr ◌++◌ [] (cut ws l) ≡ ws
unfolding cut
joined_cut [] [] e = refl
joined_cut (w ∷ ws) [] e = absurd (omega arith)
joined_cut ws (n ∷ l) e =
    ap (λ later. take n ws ++ later) (joined_cut (drop n ws) l (omega (arith, length-drop n ws))) ∙ take-append-drop n ws

pub length_cut : (ws l : List ℕ) → 4 * length ws ≡ byte_count l → map length (cut ws l) ≡ l
unfolding cut
length_cut ws [] e = refl
length_cut ws (n ∷ l) e = ap₂ ◌∷◌ (length-take-le n ws (omega arith)) (length_cut (drop n ws) l (omega (arith, length-drop n ws)))
