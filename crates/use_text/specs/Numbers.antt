-- Numbers in decimal, as the report has them (01, "The board report").
use Rattle.std.specs.Prelude.{◌+◌, ◌/◌, ◌%◌, ◌^◌, ◌≤◌, ◌<◌, ◌≡◌, ◌∷◌, ◌++◌}
use Rattle.base.specs.Prelude.{ℕ, zero, suc, pow-suc, arith, refl, sym, ap, cond, List, []}
use Rattle.base.specs.Prelude.{length, length-append, ltb, lt-ltb, le-ltb}
use Rattle.base.specs.Bools.{cond_cases}
use Rattle.model_report.specs.Report.{digits, field}

-- A text with numbers behind it, a space before each.
abbrev pub with_fields : List ℕ → List ℕ → List ℕ
with_fields text [] = text
with_fields text (v ∷ vs) = with_fields (text ++ field v) vs

-- ---- digits

-- A number below 10 is one digit; any other has its last digit behind those of the tenth.
pub digits_low : (k v : ℕ) → v < 10 → digits (suc k) v ≡ (48 + v) ∷ []
unfolding digits
digits_low k v h = rw (lt-ltb v 10 h)

-- At most as many digits as told.
pub digits_length : (k v : ℕ) → length (digits k v) ≤ k
unfolding digits
digits_length zero v = omega arith
digits_length (suc k) v =
    cond_cases (λ (d : List ℕ). length d ≤ suc k) (ltb v 10) (λ e. omega arith)
    (λ e. rw length-append (omega (arith, digits_length k (v / 10))))

-- One digit more than enough changes nothing.
enough : (k v : ℕ) → v < 10 ^ suc k → digits (suc (suc k)) v ≡ digits (suc k) v
unfolding digits
enough zero v h = rw (lt-ltb v 10 h)
enough (suc k) v h =
    ap (λ d. cond (ltb v 10) ((48 + v) ∷ []) (d ++ ((48 + v % 10) ∷ []))) (enough k (v / 10) (omega (arith, pow-suc 10 (suc k))))

-- So a number of at least 10 is its tenth, of as many digits or fewer, and its last digit.
pub digits_last : (k v : ℕ) → v < 10 ^ suc (suc k) → 10 ≤ v → digits (suc (suc k)) v ≡ digits (suc (suc k)) (v / 10) ++ ((48 + v % 10) ∷ [])
unfolding digits
digits_last k v h l =
    rw (le-ltb v 10 l) (ap (λ d. d ++ ((48 + v % 10) ∷ [])) (sym (enough k (v / 10) (omega (arith, pow-suc 10 (suc k))))))

-- ---- fields

pub last_field : (t vs : List ℕ) (v : ℕ) → with_fields t (vs ++ (v ∷ [])) ≡ with_fields t vs ++ field v
last_field t [] v = refl
last_field t (x ∷ vs) v = last_field (t ++ field x) vs v
