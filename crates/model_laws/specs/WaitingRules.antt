-- The rules of a process that waits: what holds of each rule's answer, where that rule may hold, holds of the answer.
use Rattle.std.specs.Prelude.{◌≤◌, ◌<◌}
use Rattle.base.specs.Prelude.{ℕ, Bool, ltb, ltb-true, ltb-false}
use Rattle.base.specs.Bools.{cond_both}
use Rattle.model.specs.Step.{waiting_rule}

-- Of two answers by one rule.
pub waiting_both : {A B : Type 0} (P : A → B → Type 0) (L r : ℕ) (leader : Bool) {a b c : A} {x y z : B} →
    (L ≤ r → P a x) → P b y → (r < L → P c z) → P (waiting_rule L r leader a b c) (waiting_rule L r leader x y z)
unfolding waiting_rule
waiting_both P L r leader exhausted stays leads =
    cond_both P (ltb r L)
    (λ t. cond_both P leader (λ u. leads (ltb-true r L t)) (λ u. stays))
    (λ t. exhausted (ltb-false r L t))

-- Of one.
pub waiting_cases : {A : Type 0} (P : A → Type 0) (L r : ℕ) (leader : Bool) {a b c : A} →
    (L ≤ r → P a) → P b → (r < L → P c) → P (waiting_rule L r leader a b c)
waiting_cases P L r leader exhausted stays leads = waiting_both
    (λ a x. P a) L r leader {x = leader} {y = leader} {z = leader} exhausted stays leads
