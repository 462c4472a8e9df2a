-- Reading a proof record gives what was written, and a record that reads was written, so that writing what was read gives its
-- bytes again. Assumes nothing.
use mathlib.Core.Path.{◌≡◌, refl, sym, ap, ap₂, ◌∙◌, fun_ext}
use mathlib.Core.Bool.{Bool, true, ◌&&◌}
use mathlib.Core.List.{List, [], ◌∷◌, ◌++◌, map, foldr}
use mathlib.Core.Option.{Option, none, some}
use Prim.Native.Nat.{ℕ, ◌+◌, ◌-◌, ◌*◌, ◌/◌, ◌%◌, ◌≤◌}
use lib.Dec.{eqb, leb}
use lib.ListN.{length, take, drop, get_or, length-append, length-drop, take-append-drop}
use lib.Seq.{take_at, get_or-append-add}
use borrow.Author.Tests.{eqb-true, eq-eqb, leb-true, le-leb}
use native.Mathlib.Omega.{arith}
use Rattle.algebra.specs.Lists.{tabulate}
use Rattle.algebra.specs.Counting.{All}
use Rattle.algebra.proofs.Counting.{all_map, all_append, append_all}
use Rattle.field.specs.Prime.{Prime}
use Rattle.domain.specs.Size.{max_size, is_size}
use Rattle.domain.specs.Qualifies.{Qualifies}
use Rattle.domain.proofs.SizeLaws.{size_bound}
use Rattle.protocol.specs.Three.{listed}
use Rattle.protocol.specs.Circuit.{Sizes, largest}
use Rattle.protocol.specs.Messages.{lengths}
use Rattle.protocol.specs.Refusals.{Refusal, Done, judged, refuse, pairs, size_tests, six_size_tests, trailer_bytes, end_refusal, trailer_refusal, size_refusal, word_refusal}
use Rattle.protocol.specs.Record.{bytes_of, words_in, section_lengths, starts_from, section_bytes, trailer, write_record, parts_of, Contents, trailer_word, sizes_read, record_refusal, read_record}
use Rattle.protocol.specs.Demand2.{ReadWritten, WrittenRead}
use Rattle.protocol.proofs.RefusalLaws.{first-none, refuse-none, none-refuse, and-true, word_refusal-none}
use Rattle.protocol.proofs.Words.{Word, Byte, tabulate_getD, length_bytes_of, bytes_of_append, word_at_bytes_of, words_in_bytes_of, words_in_each, WordsOf, whole_words, byte_count, length-joined, parts_of_bytes_of, cut, joined_cut, length_cut}

-- the trailer of allowed sizes has 18 words, each of 32 bits
starts_bound : (start : ℕ) (l : List ℕ) → All (λ w. w ≤ start + byte_count l) (starts_from start l)
unfolding starts_from
starts_bound start [] = tt
starts_bound start (n ∷ l) = (omega arith, all_map (λ w h. omega arith) (starts_from (start + 4 * n) l) (starts_bound (start + 4 * n) l))

byte_count_bound : (l : List ℕ) → All (λ n. n ≤ 2 * max_size) l → byte_count l ≤ 4 * (2 * max_size) * length l
byte_count_bound [] h = omega arith
byte_count_bound (n ∷ l) h = omega (arith, byte_count_bound l h.1)

module _ (s : Sizes) where
  sizes_bound : All (λ t. t ≡ true) (six_size_tests s) → All (λ n. n ≤ max_size) (s.|R| ∷ s.|C| ∷ s.|X| ∷ listed s.|K|)
  unfolding six_size_tests size_tests
  sizes_bound (r, (c, (x, k))) =
      all_map size_bound (s.|R| ∷ s.|C| ∷ s.|X| ∷ listed s.|K|) (r, (c, ((and-true (is_size s.|X|) (leb s.|X| s.|C|) x).0, k)))

  lengths_bound : All (λ n. n ≤ max_size) (s.|R| ∷ s.|C| ∷ s.|X| ∷ listed s.|K|) → All (λ n. n ≤ 2 * max_size) (section_lengths s)
  unfolding section_lengths lengths largest
  lengths_bound h = omega arith

  sections_bound : All (λ n. n ≤ 2 * max_size) (section_lengths s) → byte_count (section_lengths s) ≤ 4 * (2 * max_size) * 11
  unfolding section_lengths
  sections_bound h = byte_count_bound (section_lengths s) h

  trailer-fits : All (λ t. t ≡ true) (six_size_tests s) → All Word (trailer s)
  unfolding trailer section_bytes
  trailer-fits tests =
      let six = sizes_bound tests in
      let total = sections_bound (lengths_bound six) in
      all_append Word (starts_from 0 (section_lengths s)) (s.|R| ∷ s.|C| ∷ s.|X| ∷ (listed s.|K| ++ (section_bytes s ∷ [])))
      (all_map (λ w h. omega arith) (starts_from 0 (section_lengths s)) (starts_bound 0 (section_lengths s))) (omega arith)

  trailer-length : length (trailer s) ≡ 18
  unfolding trailer section_lengths starts_from
  trailer-length = refl

-- what is read from the bytes of words, of which the last 18 are the trailer
module _ (ws tr : List ℕ) (eighteen : length tr ≡ 18) where
  record_length : length (bytes_of (ws ++ tr)) ≡ 4 * length ws + trailer_bytes
  record_length = omega (arith, length_bytes_of (ws ++ tr), length-append ws tr)

  module _ (fit : All Word (ws ++ tr)) where
    trailer-word : (k : ℕ) → trailer_word (bytes_of (ws ++ tr)) k ≡ get_or tr k 0
    unfolding trailer_word
    trailer-word k =
        let place : (length (bytes_of (ws ++ tr)) - trailer_bytes) / 4 + k ≡ length ws + k = omega (arith, record_length) in
        word_at_bytes_of (ws ++ tr) fit ((length (bytes_of (ws ++ tr)) - trailer_bytes) / 4 + k)
        ∙ ap (λ i. get_or (ws ++ tr) i 0) place
        ∙ get_or-append-add ws tr k 0

    trailer-read : tabulate 18 (trailer_word (bytes_of (ws ++ tr))) ≡ tr
    trailer-read = ap (tabulate 18) (fun_ext trailer-word) ∙ ap (λ n. tabulate n (λ k. get_or tr k 0)) (sym eighteen) ∙ tabulate_getD tr 0

    sections-read : words_in (take (length (bytes_of (ws ++ tr)) - trailer_bytes) (bytes_of (ws ++ tr))) ≡ ws
    sections-read =
        let total : ℕ = length (bytes_of (ws ++ tr)) - trailer_bytes in
        let front : length (bytes_of ws) ≡ total = omega (arith, record_length, length_bytes_of ws) in
        ap words_in (ap (take total) (bytes_of_append ws tr) ∙ take_at (bytes_of ws) (bytes_of tr) total front)
        ∙ words_in_bytes_of ws (append_all Word ws tr fit).0

-- what the table's rows 2 and 3 ask of a record; its starts are those given where the test of every pair passes
pairs-equal : (l k : List ℕ) → length l ≡ length k → All (λ t. t ≡ true) (pairs eqb l k) → l ≡ k
pairs-equal [] [] e h = refl
pairs-equal [] (n ∷ k) e h = absurd (omega arith)
pairs-equal (m ∷ l) [] e h = absurd (omega arith)
pairs-equal (m ∷ l) (n ∷ k) e h = ap₂ ◌∷◌ (eqb-true m n h.0) (pairs-equal l k (omega arith) h.1)

equal-pairs : (l : List ℕ) → All (λ t. t ≡ true) (pairs eqb l l)
equal-pairs [] = tt
equal-pairs (n ∷ l) = (eq-eqb n n refl, equal-pairs l)

module _ (total last : ℕ) where
  end_refusal-none : end_refusal total last ≡ none → (trailer_bytes ≤ total) × (total % 4 ≡ 0) × (last ≡ total - trailer_bytes)
  unfolding end_refusal
  end_refusal-none free =
      let long : Bool = leb trailer_bytes total in
      let whole : Bool = eqb (total % 4) 0 in
      let ends : Bool = eqb last (total - trailer_bytes) in
      let all = and-true (long && whole) ends (refuse-none 2 0 ((long && whole && ends) ∷ []) free).0 in
      let both = and-true long whole all.0 in
      (leb-true trailer_bytes total both.0, eqb-true (total % 4) 0 both.1, eqb-true last (total - trailer_bytes) all.1)

  none-end_refusal : trailer_bytes ≤ total → total % 4 ≡ 0 → last ≡ total - trailer_bytes → end_refusal total last ≡ none
  unfolding end_refusal
  none-end_refusal long whole ends =
      rw (le-leb trailer_bytes total long, eq-eqb (total % 4) 0 whole, eq-eqb last (total - trailer_bytes) ends)

module _ (s : Sizes) (starts givenStarts : List ℕ) (total givenTotal : ℕ) where
  trailer_refusal-none :
      trailer_refusal s starts givenStarts total givenTotal ≡ none
      → All (λ t. t ≡ true) (six_size_tests s) × All (λ t. t ≡ true) (pairs eqb starts givenStarts) × (total ≡ givenTotal)
  unfolding trailer_refusal
  trailer_refusal-none free =
      let startTests : List Bool = pairs eqb starts givenStarts in
      let totalTests : List Bool = eqb total givenTotal ∷ [] in
      let rows = first-none (refuse 3 11 (six_size_tests s) ∷ refuse 3 0 startTests ∷ refuse 3 17 totalTests ∷ []) free in (
        refuse-none 3 11 (six_size_tests s) rows.0,
        refuse-none 3 0 startTests rows.1.0,
        eqb-true total givenTotal (refuse-none 3 17 totalTests rows.1.1.0).0,
      )

  none-trailer_refusal :
      All (λ t. t ≡ true) (six_size_tests s) → All (λ t. t ≡ true) (pairs eqb starts givenStarts) → total ≡ givenTotal
      → trailer_refusal s starts givenStarts total givenTotal ≡ none
  unfolding trailer_refusal
  none-trailer_refusal sizes same e =
      rw (none-refuse 3 11 (six_size_tests s) sizes, none-refuse 3 0 (pairs eqb starts givenStarts) same, eq-eqb total givenTotal e)

-- what is asked of sizes and parts that are written
record Writable (q : Prime) (s : Sizes) (parts : List (List ℕ)) : Type 0 where
  sizes_free : size_refusal (six_size_tests s) ≡ none
  lengths-given : map length parts ≡ section_lengths s
  words_free : word_refusal q (foldr ◌++◌ [] parts) ≡ none

field_words : (q : Prime) → Qualifies q → (ws : List ℕ) → word_refusal q ws ≡ none → All Word ws
field_words q Q ws free = all_map (λ w h. omega (arith, Q.small)) ws (word_refusal-none q ws free)

-- reading what was written
module _ (q : Prime) (Q : Qualifies q) (s : Sizes) (parts : List (List ℕ)) (writable : Writable q s parts) where
  abbrev ws : List ℕ
  ws = foldr ◌++◌ [] parts

  abbrev bytes : List ℕ
  bytes = bytes_of (ws ++ trailer s)

  abbrev starts : List ℕ
  starts = starts_from 0 (section_lengths s)

  tests : All (λ t. t ≡ true) (six_size_tests s)
  unfolding size_refusal
  tests = refuse-none 4 0 (six_size_tests s) writable.sizes_free

  fit : All Word (ws ++ trailer s)
  fit = all_append Word ws (trailer s) (field_words q Q ws writable.words_free) (trailer-fits s tests)

  total-length : length bytes ≡ 4 * length ws + trailer_bytes
  total-length = record_length ws (trailer s) (trailer-length s)

  total-given : length bytes - trailer_bytes ≡ section_bytes s
  unfolding section_bytes
  total-given = omega (arith, total-length, length-joined parts, ap byte_count writable.lengths-given)

  word_read : (k : ℕ) → trailer_word bytes k ≡ get_or (trailer s) k 0
  word_read = trailer-word ws (trailer s) (trailer-length s) fit

  sizes-read : sizes_read bytes ≡ s
  unfolding sizes_read trailer section_lengths starts_from
  sizes-read = λ i. record {
    |R| = word_read 11 i;
    |C| = word_read 12 i;
    |X| = word_read 13 i;
    |K| = record { a = word_read 14 i; b = word_read 15 i; c = word_read 16 i };
  }

  starts_read : tabulate 11 (trailer_word bytes) ≡ starts
  unfolding trailer section_lengths starts_from
  starts_read = ap (take 11) (trailer-read ws (trailer s) (trailer-length s) fit)

  total-read : trailer_word bytes 17 ≡ section_bytes s
  unfolding trailer section_lengths starts_from
  total-read = word_read 17

  end_free : end_refusal (length bytes) (trailer_word bytes 17) ≡ none
  end_free =
      none-end_refusal (length bytes) (trailer_word bytes 17) (omega (arith, total-length)) (omega (arith, total-length))
      (total-read ∙ sym total-given)

  trailer_free : trailer_refusal s starts starts (length bytes - trailer_bytes) (section_bytes s) ≡ none
  trailer_free = none-trailer_refusal s starts starts (length bytes - trailer_bytes) (section_bytes s) tests (equal-pairs starts) total-given

  record_free : record_refusal bytes q ≡ none
  unfolding record_refusal
  record_free =
      rw (end_free, sizes-read, starts_read, trailer_free, sections-read ws (trailer s) (trailer-length s) fit, writable.words_free)

  parts-read : parts_of bytes (section_lengths (sizes_read bytes)) ≡ map bytes_of parts
  parts-read = rw (sizes-read, ← writable.lengths-given, bytes_of_append) (parts_of_bytes_of parts (bytes_of (trailer s)))

  contents_read : read_record (write_record s parts) q ≡ Done (record { sizes = s; parts = map bytes_of parts })
  unfolding read_record write_record
  contents_read = ap₂ judged record_free λ i. record { sizes = sizes-read i; parts = parts-read i }

  words-read : map words_in (map bytes_of parts) ≡ parts
  words-read = words_in_each parts (field_words q Q ws writable.words_free)

pub read-written : (q : Prime) → Qualifies q → ReadWritten q
read-written q Q s parts sizes_free lengths-given words_free =
    let writable : Writable q s parts = record { sizes_free = sizes_free; lengths-given = lengths-given; words_free = words_free } in
    (contents_read q Q s parts writable, words-read q Q s parts writable)

-- what it says of a record that nothing in it is refused
record Passes (q : Prime) (bytes : List ℕ) : Type 0 where
  long : trailer_bytes ≤ length bytes
  whole : length bytes % 4 ≡ 0
  last : trailer_word bytes 17 ≡ length bytes - trailer_bytes
  sizes_pass : All (λ t. t ≡ true) (six_size_tests (sizes_read bytes))
  starts : tabulate 11 (trailer_word bytes) ≡ starts_from 0 (section_lengths (sizes_read bytes))
  total : length bytes - trailer_bytes ≡ section_bytes (sizes_read bytes)
  words_free : word_refusal q (words_in (take (length bytes - trailer_bytes) bytes)) ≡ none

record_refusal-none : (q : Prime) (bytes : List ℕ) → record_refusal bytes q ≡ none → Passes q bytes
unfolding record_refusal section_lengths starts_from
record_refusal-none q bytes free =
    let s : Sizes = sizes_read bytes in
    let total : ℕ = length bytes - trailer_bytes in
    let starts : List ℕ = tabulate 11 (trailer_word bytes) in
    let given : List ℕ = starts_from 0 (section_lengths s) in
    let end : Option Refusal = end_refusal (length bytes) (trailer_word bytes 17) in
    let trail : Option Refusal = trailer_refusal s starts given total (section_bytes s) in
    let rows = first-none (end ∷ trail ∷ word_refusal q (words_in (take total bytes)) ∷ []) free in
    let ends = end_refusal-none (length bytes) (trailer_word bytes 17) rows.0 in
    let trails = trailer_refusal-none s starts given total (section_bytes s) rows.1.0 in
    record {
      long = ends.0;
      whole = ends.1;
      last = ends.2;
      sizes_pass = trails.0;
      starts = pairs-equal starts given refl trails.1;
      total = trails.2;
      words_free = rows.1.1.0;
    }

-- bytes that are written from some sizes and parts
record Written (q : Prime) (bytes : List ℕ) : Type 0 where
  sizes : Sizes
  parts : List (List ℕ)
  writable : Writable q sizes parts
  same : write_record sizes parts ≡ bytes

module _ (q : Prime) (ws tr : List ℕ) (eighteen : length tr ≡ 18) (fit : All Word (ws ++ tr)) (pass : Passes q (bytes_of (ws ++ tr))) where
  abbrev s : Sizes
  s = sizes_read (bytes_of (ws ++ tr))

  sections-total : 4 * length ws ≡ byte_count (section_lengths s)
  unfolding section_bytes
  sections-total = omega (arith, record_length ws tr eighteen, pass.total)

  trailer_same : trailer s ≡ tr
  unfolding trailer sizes_read
  trailer_same =
      ap₂ (λ starts last. starts ++ (s.|R| ∷ s.|C| ∷ s.|X| ∷ (listed s.|K| ++ (last ∷ [])))) (sym pass.starts) (sym (pass.last ∙ pass.total))
      ∙ trailer-read ws tr eighteen fit

  words-written : Written q (bytes_of (ws ++ tr))
  unfolding size_refusal write_record
  words-written =
      let joins : foldr ◌++◌ [] (cut ws (section_lengths s)) ≡ ws = joined_cut ws (section_lengths s) sections-total in
      record {
        sizes = s;
        parts = cut ws (section_lengths s);
        writable = record {
          sizes_free = none-refuse 4 0 (six_size_tests s) pass.sizes_pass;
          lengths-given = length_cut ws (section_lengths s) sections-total;
          words_free = ap (word_refusal q) (joins ∙ sym (sections-read ws tr eighteen fit)) ∙ pass.words_free;
        };
        same = ap₂ (λ words trail. bytes_of (words ++ trail)) joins trailer_same;
      }

passing_written : (q : Prime) (bytes : List ℕ) → All Byte bytes → Passes q bytes → Written q bytes
passing_written q bytes small pass =
    let spelling : WordsOf bytes = whole_words (length bytes / 4) bytes (omega (arith, pass.whole)) small in
    let ws : List ℕ = spelling.words in
    let n : ℕ = length ws - 18 in
    let whole : take n ws ++ drop n ws ≡ ws = take-append-drop n ws in
    let same : bytes ≡ bytes_of (take n ws ++ drop n ws) = sym spelling.spell ∙ ap bytes_of (sym whole) in
    let eighteen : length (drop n ws) ≡ 18 = omega (arith, length-drop n ws, length_bytes_of ws, ap length spelling.spell, pass.long) in
    rw same (words-written q (take n ws) (drop n ws) eighteen (rw whole spelling.fit) (rw same at pass))

done_free : {found : Contents} (o : Option Refusal) (contents : Contents) → judged o contents ≡ Done found → o ≡ none
done_free none contents e = refl
done_free (some r) contents e = cc

read_free : (q : Prime) (bytes : List ℕ) (found : Contents) → read_record bytes q ≡ Done found → record_refusal bytes q ≡ none
unfolding read_record
read_free q bytes found e = done_free (record_refusal bytes q) _ e

pub written_read : (q : Prime) → Qualifies q → WrittenRead q
written_read q Q bytes found small e =
    let w : Written q bytes = passing_written q bytes small (record_refusal-none q bytes (read_free q bytes found e)) in
    let again = contents_read q Q w.sizes w.parts w.writable in
    let read : found ≡ record { sizes = w.sizes; parts = map bytes_of w.parts } = cc (e, ap (λ b. read_record b q) w.same, again) in
    ap (λ (c : Contents). write_record c.sizes (map words_in c.parts)) read
    ∙ ap (write_record w.sizes) (words-read q Q w.sizes w.parts w.writable)
    ∙ w.same
