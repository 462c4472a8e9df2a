-- A job by its bytes and its words: its length, and the text in each case. Assumes nothing.
use mathlib.Core.Path.{◌≡◌, sym, ap, ◌∙◌}
use mathlib.Core.Bool.{Bool, ◌&&◌}
use mathlib.Core.List.{List, [], ◌∷◌}
use mathlib.Core.Option.{none, some}
use Prim.Native.Nat.{ℕ, ◌+◌, ◌*◌, ◌/◌, ◌≤◌, ◌<◌}
use native.Mathlib.Omega.{arith}
use lib.Dec.{leb, ltb}
use lib.ListN.{length, get_or}
use borrow.Author.Tests.{lt-ltb, le-ltb, leb-true}
use Rattle.algebra.specs.Lists.{pick}
use Rattle.algebra.proofs.Choice.{pick_true, pick-false}
use Rattle.domain.specs.BabyBear.{baby_bear}
use Rattle.domain.specs.Size.{max_size, is_size}
use Rattle.domain.proofs.SizeLaws.{size_bound}
use Rattle.protocol.specs.Refusals.{Refusal, size_tests, size_refusal, list_refusal}
use Rattle.protocol.specs.Record.{words_in}
use Rattle.protocol.proofs.RefusalLaws.{first-none, refuse-none}
use Rattle.report.specs.ProofText.{refused_text, unless_refused, outcome_text}
use Rattle.job.specs.JobText.{max_bytes, head_bytes, too_long, too_short, head_refusal, job_length, job_of, job_text}
use Rattle.job.specs.Parts.{words_text}

-- |C| and the counts of a job whose head is not refused
pub record HeadFits (ws : List ℕ) : Type 0 where
  pub columns : get_or ws 1 0 ≤ 1024
  pub count-a : get_or ws 3 0 ≤ 1024
  pub count-b : get_or ws 4 0 ≤ 1024
  pub count-c : get_or ws 5 0 ≤ 1024

pub head_fits : (ws : List ℕ) → head_refusal ws ≡ none → HeadFits ws
unfolding head_refusal size_refusal size_tests list_refusal
head_fits ws free =
    let w : ℕ → ℕ = λ k. get_or ws k 0 in
    let counts : List Bool = leb (w 3) max_size ∷ leb (w 4) max_size ∷ leb (w 5) max_size ∷ [] in
    let rows = first-none (size_refusal (size_tests (w 0) (w 1) (w 2) []) ∷ list_refusal counts ∷ []) free in
    let s = refuse-none 4 0 (is_size (w 0) ∷ is_size (w 1) ∷ (is_size (w 2) && leb (w 2) (w 1)) ∷ []) rows.0 in
    let t = refuse-none 5 0 counts rows.1.0 in
    record {
      columns = size_bound (w 1) s.1.0;
      count-a = leb-true (w 3) max_size t.0;
      count-b = leb-true (w 4) max_size t.1.0;
      count-c = leb-true (w 5) max_size t.1.1.0;
    }

-- the length of a job by its head
pub whole_length : (ws : List ℕ) → job_length ws ≡ 16 + 3 * get_or ws 3 0 + 3 * get_or ws 4 0 + 3 * get_or ws 5 0 + 3 * get_or ws 1 0
unfolding job_length
whole_length ws = omega arith

pub length_most : (ws : List ℕ) → head_refusal ws ≡ none → job_length ws ≤ 16384
length_most ws free =
    let F = head_fits ws free in
    omega (arith, whole_length ws, F.columns, F.count-a, F.count-b, F.count-c)

-- the text of a job by its words
module _ (count : ℕ) (ws : List ℕ) where
  abbrev whole : List ℕ
  whole = outcome_text baby_bear (job_of ws)

  abbrev sized : List ℕ
  sized = pick (ltb (4 * job_length ws) count) too_long (pick (ltb count (4 * job_length ws)) too_short whole)

  pub head_refused : {r : Refusal} → head_refusal ws ≡ some r → refused_text r ≡ words_text count ws
  unfolding words_text
  head_refused {r} e = sym (ap (λ o. unless_refused o sized) e)

  module _ (free : head_refusal ws ≡ none) where
    judged_text : sized ≡ words_text count ws
    unfolding words_text
    judged_text = sym (ap (λ o. unless_refused o sized) free)

    pub text_left-over : 4 * job_length ws < count → too_long ≡ words_text count ws
    text_left-over h = sym (pick_true too_long _ (lt-ltb _ _ h)) ∙ judged_text

    pub text_unfinished : count < 4 * job_length ws → too_short ≡ words_text count ws
    text_unfinished h =
        sym (pick-false too_long _ (le-ltb (4 * job_length ws) count (omega arith)) ∙ pick_true too_short whole (lt-ltb _ _ h)) ∙ judged_text

    pub text_whole : count ≡ 4 * job_length ws → whole ≡ words_text count ws
    text_whole h =
        sym
        (pick-false too_long _ (le-ltb (4 * job_length ws) count (omega arith))
        ∙ pick-false too_short whole (le-ltb count (4 * job_length ws) (omega arith)))
        ∙ judged_text

-- at most 4,096 bytes are at most 1,024 words
pub few_words : (bytes : ℕ) → bytes ≤ max_bytes → bytes / 4 ≤ 1024
few_words bytes h = omega arith

-- and by its bytes
module _ (bytes : List ℕ) where
  abbrev n : ℕ
  n = length bytes

  pub text_long : max_bytes < n → too_long ≡ job_text baby_bear bytes
  unfolding job_text
  text_long h = sym (pick_true too_long _ (lt-ltb _ _ h))

  pub text_short : n ≤ max_bytes → n < head_bytes → too_short ≡ job_text baby_bear bytes
  unfolding job_text
  text_short h k = sym (pick-false too_long _ (le-ltb max_bytes n h) ∙ pick_true too_short _ (lt-ltb _ _ k))

  pub text_words : n ≤ max_bytes → head_bytes ≤ n → words_text n (words_in bytes) ≡ job_text baby_bear bytes
  unfolding job_text words_text
  text_words h k = sym (pick-false too_long _ (le-ltb max_bytes n h) ∙ pick-false too_short _ (le-ltb n head_bytes k))
