-- The chart's rule over a list of all entries. Assumes nothing.
use Rattle.std.proofs.Common.{◌≡◌, ℕ, ◌+◌, ◌*◌, ◌/◌, ◌%◌, ◌<◌, Bool, T, eqb, List, length, get_or, refl, ap, ◌∙◌, arith, eqb→eq}
use Rattle.fault.specs.Levels.{rank_of}
use Rattle.fault.specs.declared.level.Level.{Level}
use Rattle.fault.specs.declared.level.Level.TheVariants.{Nothing, Call, Read, Write}
use Rattle.plan.specs.Chart.{answer_of, charted, decision, level_no, question_no, question_number}
use Rattle.plan.specs.declared.chart.Question.{Question}
use Rattle.plan.specs.declared.chart.Question.TheVariants.{Load, Store, Fetch, Keep, Door, Elsewhere}
use Rattle.plan.proofs.Table.{every, at}

level_back : (l : Level) → level_no (rank_of l) ≡ l
level_back Nothing = refl
level_back Call = refl
level_back Read = refl
level_back Write = refl

pub rank_small : (l : Level) → rank_of l < 4
rank_small Nothing = omega arith
rank_small Call = omega arith
rank_small Read = omega arith
rank_small Write = omega arith

question_back : (q : Question) → question_no (question_number q) ≡ q
question_back Load = refl
question_back Store = refl
question_back Fetch = refl
question_back Keep = refl
question_back Door = refl
question_back Elsewhere = refl

pub question_small : (q : Question) → question_number q < 6
question_small Load = omega arith
question_small Store = omega arith
question_small Fetch = omega arith
question_small Keep = omega arith
question_small Door = omega arith
question_small Elsewhere = omega arith

abbrev said : ℕ → ℕ → ℕ → ℕ
said b l q = answer_of (decision b (level_no l) (question_no q))

abbrev pub right : ℕ → ℕ → Bool
right k x = eqb x (charted k)

by_number : (xs : List ℕ) → T (every right 0 xs) → length xs ≡ 768 → (b l q : ℕ) → b < 32 → l < 4 → q < 6 → get_or xs (24 * b + 6 * l + q) 0 ≡ said b l q
by_number xs t n b l q hb hl hq =
    let eb : (24 * b + 6 * l + q) / 24 ≡ b = omega arith in
    let el : (24 * b + 6 * l + q) / 6 % 4 ≡ l = omega arith in
    let eq : (24 * b + 6 * l + q) % 6 ≡ q = omega arith in
    eqb→eq (get_or xs (24 * b + 6 * l + q) 0) (said ((24 * b + 6 * l + q) / 24) ((24 * b + 6 * l + q) / 6 % 4) ((24 * b + 6 * l + q) % 6)) (at right xs t (24 * b + 6 * l + q) (omega arith))
    ∙ ap (λ x. said x ((24 * b + 6 * l + q) / 6 % 4) ((24 * b + 6 * l + q) % 6)) eb
    ∙ ap (λ x. said b x ((24 * b + 6 * l + q) % 6)) el
    ∙ ap (λ x. said b l x) eq

pub reads : (xs : List ℕ) → T (every right 0 xs) → length xs ≡ 768 → (b : ℕ) (l : Level) (q : Question) → b < 32 → get_or xs (24 * b + 6 * rank_of l + question_number q) 0 ≡ answer_of (decision b l q)
reads xs t n b l q h =
    by_number xs t n b (rank_of l) (question_number q) h (rank_small l) (question_small q)
    ∙ ap (λ x. answer_of (decision b x (question_no (question_number q)))) (level_back l)
    ∙ ap (λ x. answer_of (decision b l x)) (question_back q)
