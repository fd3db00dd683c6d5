-- The two programs of document 01: how the verdict program cuts its input, and what each program puts out for every input.
-- Document 01, "Two programs". Text is in ASCII; every line ends with one newline, 0A.
use Rattle.std.specs.Prelude.{ℕ, zero, suc, ◌+◌, ◌*◌, ◌/◌, ◌%◌, ◌≤◌, ◌≡◌, true, false, cond, List, [], ◌∷◌, ◌++◌, eqb, ltb, length, take, drop, ℤ, pos, negsuc}
use Rattle.definitions.specs.Limits.{kept_bytes, length_bytes, signed_full, questions_kind}
use Rattle.definitions.specs.Tropical.{Trop, bot, fin}
use Rattle.definitions.specs.Bytes.{Bytes}
use Rattle.definitions.specs.ProblemRecord.{record_refusal, meant, problem_of, AsksOne, kind_field, n_field, count_field, length_field}
use Rattle.definitions.specs.AnswerRecord.{Answer, by_class, answer_bytes}
use Rattle.definitions.specs.Verdict.{Verdict, accepted, refused, not_certified, Judged}
use Rattle.definitions.specs.Solved.{Answers, AnswersInTurn}

-- ---- lines

-- A number in decimal digits, without leading zeros; `turns` bounds the digits.
unfoldable pub digits : ℕ → ℕ → List ℕ
digits zero k = []
digits (suc turns) k = elim (ltb k 10) [ true ↦ (48 + k) ∷ [] | false ↦ digits turns (k / 10) ++ ((48 + k % 10) ∷ []) ]

unfoldable pub decimal : ℕ → List ℕ
decimal k = digits (suc k) k

-- A whole number in decimal, a negative one with a minus.
unfoldable pub whole_decimal : ℤ → List ℕ
whole_decimal (pos k) = decimal k
whole_decimal (negsuc k) = 45 ∷ decimal (suc k)

-- A span in decimal; a blank one has no digits.
unfoldable pub span_decimal : Trop → List ℕ
span_decimal bot = []
span_decimal (fin z) = whole_decimal z

abbrev pub newline : List ℕ
newline = 10 ∷ []

-- `refused `
unfoldable pub text_refused : List ℕ
text_refused = 114 ∷ 101 ∷ 102 ∷ 117 ∷ 115 ∷ 101 ∷ 100 ∷ 32 ∷ []

-- `not certified`
unfoldable pub text_not_certified : List ℕ
text_not_certified = 110 ∷ 111 ∷ 116 ∷ 32 ∷ 99 ∷ 101 ∷ 114 ∷ 116 ∷ 105 ∷ 102 ∷ 105 ∷ 101 ∷ 100 ∷ []

-- `accepted `
unfoldable pub text_accepted : List ℕ
text_accepted = 97 ∷ 99 ∷ 99 ∷ 101 ∷ 112 ∷ 116 ∷ 101 ∷ 100 ∷ 32 ∷ []

-- `least `, `bottomless`, `none`
unfoldable pub text_least : List ℕ
text_least = 108 ∷ 101 ∷ 97 ∷ 115 ∷ 116 ∷ 32 ∷ []

unfoldable pub text_bottomless : List ℕ
text_bottomless = 98 ∷ 111 ∷ 116 ∷ 116 ∷ 111 ∷ 109 ∷ 108 ∷ 101 ∷ 115 ∷ 115 ∷ []

unfoldable pub text_none : List ℕ
text_none = 110 ∷ 111 ∷ 110 ∷ 101 ∷ []

-- The line `refused 3`, with the number.
unfoldable pub refused_line : ℕ → List ℕ
refused_line k = text_refused ++ (decimal k ++ newline)

-- What stands after `accepted`: the class in words, then the span for least.
unfoldable pub class_words : ℕ → Trop → List ℕ
class_words class span = by_class class (text_least ++ span_decimal span) text_bottomless text_none []

-- The line of a verdict. A right form that is not accepted prints `not certified`.
unfoldable pub verdict_line : Verdict → List ℕ
verdict_line (accepted class span) = text_accepted ++ (class_words class span ++ newline)
verdict_line (refused k) = cond (eqb k not_certified) (text_not_certified ++ newline) (refused_line k)

-- ---- the verdict program

-- The input is cut by its first length field; where that is not whole, or reaches past the input, all is the problem.
unfoldable pub cut_place : List ℕ → ℕ
cut_place input =
    cond (ltb (length input) length_bytes) (length input)
    (cond (ltb (length input) (length_field input + length_bytes)) (length input) (length_field input + length_bytes))

unfoldable pub problem_part : List ℕ → List ℕ
problem_part input = take (cut_place input) input

unfoldable pub answer_part : List ℕ → List ℕ
answer_part input = drop (cut_place input) input

-- What the verdict program puts out: the line of the verdict on the two parts. A problem part of no bytes means the idle day.
pub record VerdictOutput (input output : List ℕ) : Type 0 where
  pub verdict : Verdict
  pub judged : Judged (meant (problem_part input)) (answer_part input) verdict
  pub line : output ≡ verdict_line verdict

-- ---- the span program

-- What the span program puts out for the record that its input means: the answer record, or all answer records one after another where
-- several questions are asked, or the line of the refusal.
pub data SpanOutput (input : List ℕ) : List ℕ → Type 0 where
  refusal : {k : ℕ} → record_refusal input ≡ suc k → SpanOutput input (refused_line (suc k))
  answer :
      {class : ℕ} {span : Trop} {trials : ℕ} (a : Answer) → AsksOne input → record_refusal input ≡ 0
      → Answers (problem_of input) class span trials a → SpanOutput input (answer_bytes (n_field input) a)
  answers :
      {bytes : List ℕ} {trials : ℕ} → kind_field input ≡ questions_kind → record_refusal input ≡ 0
      → AnswersInTurn input (count_field input) bytes trials → SpanOutput input bytes

-- ---- long inputs

-- The programs that read records count all input and keep the first 20,000 bytes of it. An input of this size whose first 20,000 bytes are
-- the kept ones; of a shorter input only the first `size` kept bytes belong to it. So what a
-- program puts out depends on the kept bytes and the size alone.
pub record KeptOf (kept : List ℕ) (size : ℕ) (input : List ℕ) : Type 0 where
  pub size_is : length input ≡ size
  pub begins : take kept_bytes input ≡ take kept_bytes (take size kept)

-- A program may stop counting from 2³³ bytes on: a length field is below half of that, so that nothing changes there.
abbrev pub read_most : ℕ
read_most = 2 * signed_full

-- An input of which these bytes were kept and so many were counted: all of it, or, from 2³³ on, its first `size` bytes.
pub data ReadFrom (kept : List ℕ) (size : ℕ) (input : List ℕ) : Type 0 where
  whole : KeptOf kept size input → ReadFrom kept size input
  part : Bytes input → read_most ≤ size → size ≤ length input → KeptOf kept size (take size input) → ReadFrom kept size input
