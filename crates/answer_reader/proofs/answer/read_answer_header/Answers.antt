use Rattle.std.proofs.Common.{◌≡◌, ◌∙◌, sym, ◌&&◌, true, false, eqb, eq-eqb, ne_eqb}
use Rattle.definitions.specs.Limits.{answer_kind}
use Rattle.definitions.specs.AnswerRecord.{known_class, start_fits, answer_size, answer_header_judged}
use Rattle.records.specs.declared.refusal.Refusal.TheVariants.{Limits, AnswerShort, AnswerLength, AnswerClass, AnswerSize}
use Rattle.records.proofs.Tests.{tests}
use Rattle.answer_reader.proofs.Reading.{header_err, header_ok}
use Rattle.answer_reader.proofs.answer.read_answer_header.Goals as goal
use Rattle.answer_reader.proofs.answer.read_answer_header.Goals.{then-n-gt-HIGHEST_N-via-then-n-gt-HIGHEST_N, then-n-gt-HIGHEST_N-via-else-n-gt-HIGHEST_N+then-m-gt-HIGHEST_M, then-own-n-via-then-own-n, then-own-n-via-else-own-n+then-size-answer_size}

pub returns-then-n-gt-HIGHEST_N : goal.returns-then-n-gt-HIGHEST_N
unfolding answer_header_judged
returns-then-n-gt-HIGHEST_N c =
    header_err c.args.size c.args.n c.args.m c.word_at-length.ensures.0 (c.from-kind.ensures ∙ c.short_at.ensures.0) c.short_at-own.ensures.0 c.head_at-head.ensures Limits
    (elim c.then-n-gt-HIGHEST_N.branch [ then-n-gt-HIGHEST_N-via-then-n-gt-HIGHEST_N w ↦ search tests | then-n-gt-HIGHEST_N-via-else-n-gt-HIGHEST_N+then-m-gt-HIGHEST_M w ↦ search tests ])

pub returns-then-size-lt-ANSWER_HEADER : goal.returns-then-size-lt-ANSWER_HEADER
unfolding answer_header_judged
returns-then-size-lt-ANSWER_HEADER c = header_err c.args.size c.args.n c.args.m c.word_at-length.ensures.0 (c.from-kind.ensures ∙ c.short_at.ensures.0) c.short_at-own.ensures.0 c.head_at-head.ensures AnswerShort (search tests)

pub returns-then-length-size : goal.returns-then-length-size
unfolding answer_header_judged
returns-then-length-size c = header_err c.args.size c.args.n c.args.m c.word_at-length.ensures.0 (c.from-kind.ensures ∙ c.short_at.ensures.0) c.short_at-own.ensures.0 c.head_at-head.ensures AnswerLength (search tests)

pub returns-then-not-known_record : goal.returns-then-not-known_record
unfolding answer_header_judged
returns-then-not-known_record c =
    let h = c.head_at-head.result in
    let known : (eqb c.from-kind.result answer_kind && (known_class h.class && start_fits h.class h.start c.args.n)) ≡ false = sym c.known_record.ensures ∙ c.if-not-known_record.true in
    header_err c.args.size c.args.n c.args.m c.word_at-length.ensures.0 (c.from-kind.ensures ∙ c.short_at.ensures.0) c.short_at-own.ensures.0 c.head_at-head.ensures AnswerClass (search (tests, known))

pub returns-then-own-n : goal.returns-then-own-n
unfolding answer_header_judged
returns-then-own-n c =
    let h = c.head_at-head.result in
    let known : (eqb c.from-kind.result answer_kind && (known_class h.class && start_fits h.class h.start c.args.n)) ≡ true = sym c.known_record.ensures ∙ c.if-not-known_record.false in
    header_err c.args.size c.args.n c.args.m c.word_at-length.ensures.0 (c.from-kind.ensures ∙ c.short_at.ensures.0) c.short_at-own.ensures.0 c.head_at-head.ensures AnswerSize
    (elim c.then-own-n.branch [ then-own-n-via-then-own-n w ↦ search (tests, known) | then-own-n-via-else-own-n+then-size-answer_size w ↦ (let size : eqb c.args.size (answer_size h.class c.args.n c.args.m) ≡ false = ne_eqb _ _ (λ s. w.if-size-answer_size.true (s ∙ sym w.answer_size.ensures.0)) in search (tests, known, size)) ])

pub returns : goal.returns
unfolding answer_header_judged
returns c =
    let h = c.head_at-head.result in
    let known : (eqb c.from-kind.result answer_kind && (known_class h.class && start_fits h.class h.start c.args.n)) ≡ true = sym c.known_record.ensures ∙ c.if-not-known_record.false in
    let size : eqb c.args.size (answer_size h.class c.args.n c.args.m) ≡ true = eq-eqb _ _ (c.if-size-answer_size.false ∙ c.answer_size.ensures.0) in
    header_ok c.args.size c.args.n c.args.m c.word_at-length.ensures.0 (c.from-kind.ensures ∙ c.short_at.ensures.0) c.short_at-own.ensures.0 c.head_at-head.ensures (search (tests, known, size))
