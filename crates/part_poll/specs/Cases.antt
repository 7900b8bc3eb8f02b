-- The phases that the last arm of a `match` stands for, by their tags. Assumes nothing.
use Rattle.std.specs.Prelude.{◌≡◌, ◌∷◌}
use Prim.{tt}
use Rattle.base.specs.Prelude.{ℕ, refl, List, [], cond}
use denote.Enum.Declared.{tag_of}
use types.Run.{OneOf, miss}
use Rattle.model.specs.contracts.Phase.{the_type}
use Rattle.model.specs.declared.Phase.{Phase}
use Rattle.model.specs.declared.Phase.TheVariants.{Idle, Waiting, Write, Scan, Adopt, Compare, Flag, CheckMark}
use Rattle.model.specs.declared.Phase.TheVariants.{CheckValue, Commit, Exhausted, Crashed, Decided, HasCommitted, HasAdopted}
use Rattle.model_poll.specs.declared.Answer.TheVariants.{Pending}
use Rattle.model_poll.specs.Turn.{is_waiting, ending, phase_answer}

-- Every phase but gate.
abbrev not_waiting_tags : List ℕ
not_waiting_tags = 0 ∷ 2 ∷ 3 ∷ 4 ∷ 5 ∷ 6 ∷ 7 ∷ 8 ∷ 9 ∷ 10 ∷ 11 ∷ 12 ∷ 13 ∷ 14 ∷ []

-- Every phase but the checks and commit.
abbrev goes_on_tags : List ℕ
goes_on_tags = 0 ∷ 1 ∷ 2 ∷ 3 ∷ 4 ∷ 5 ∷ 6 ∷ 10 ∷ 11 ∷ 12 ∷ 13 ∷ 14 ∷ []

-- Every phase without an answer.
abbrev no_answer_tags : List ℕ
no_answer_tags = 0 ∷ 1 ∷ 2 ∷ 3 ∷ 4 ∷ 5 ∷ 6 ∷ 7 ∷ 8 ∷ 9 ∷ 10 ∷ 11 ∷ 12 ∷ []

-- What the last arm of each of the three functions answers, phase by phase.
last_arms : (f : Phase) →
    (OneOf not_waiting_tags (tag_of the_type f) → f ≡ cond (is_waiting f) HasAdopted f)
    × ((left : Phase) → OneOf goes_on_tags (tag_of the_type f) → left ≡ ending f left)
    × ((e : ℕ) → OneOf no_answer_tags (tag_of the_type f) → Pending ≡ phase_answer f e)
unfolding ending
last_arms Idle = (λ h. refl, λ left h. refl, λ e h. refl)
last_arms Waiting = (λ h. absurd (miss not_waiting_tags 1 tt h), λ left h. refl, λ e h. refl)
last_arms Write = (λ h. refl, λ left h. refl, λ e h. refl)
last_arms (Scan k) = (λ h. refl, λ left h. refl, λ e h. refl)
last_arms (Adopt k) = (λ h. refl, λ left h. refl, λ e h. refl)
last_arms (Compare i) = (λ h. refl, λ left h. refl, λ e h. refl)
last_arms (Flag i) = (λ h. refl, λ left h. refl, λ e h. refl)
last_arms (CheckMark i) = (λ h. refl, λ left h. absurd (miss goes_on_tags 7 tt h), λ e h. refl)
last_arms (CheckValue i) = (λ h. refl, λ left h. absurd (miss goes_on_tags 8 tt h), λ e h. refl)
last_arms Commit = (λ h. refl, λ left h. absurd (miss goes_on_tags 9 tt h), λ e h. refl)
last_arms Exhausted = (λ h. refl, λ left h. refl, λ e h. refl)
last_arms Crashed = (λ h. refl, λ left h. refl, λ e h. refl)
last_arms Decided = (λ h. refl, λ left h. refl, λ e h. refl)
last_arms HasCommitted = (λ h. refl, λ left h. refl, λ e h. absurd (miss no_answer_tags 13 tt h))
last_arms HasAdopted = (λ h. refl, λ left h. refl, λ e h. absurd (miss no_answer_tags 14 tt h))

pub not_waiting : (f : Phase) → OneOf not_waiting_tags (tag_of the_type f) → f ≡ cond (is_waiting f) HasAdopted f
not_waiting f = (last_arms f).0

pub goes_on : (f left : Phase) → OneOf goes_on_tags (tag_of the_type f) → left ≡ ending f left
goes_on f = (last_arms f).1

pub no_answer : (f : Phase) (e : ℕ) → OneOf no_answer_tags (tag_of the_type f) → Pending ≡ phase_answer f e
no_answer f = (last_arms f).2
