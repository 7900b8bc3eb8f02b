-- The bytes of the decided values, one process more at a time. Assumes nothing.
use Rattle.std.specs.Prelude.{◌+◌, ◌*◌, ◌<◌, ◌≡◌, ◌∷◌, ◌++◌}
use Prim.{tt}
use Rattle.base.specs.Prelude.{ℕ, refl, ◌∙◌, ap, List, [], le_of_lt, zero-add, add-one, arith, length, get_or}
use Rattle.base.specs.Prelude.{take, take-suc, length-take-le, sets}
use Rattle.base.specs.Arrays.{sets_append}
use denote.Enum.Declared.{tag_of}
use types.Run.{OneOf, miss}
use Rattle.model.specs.contracts.Phase.{the_type}
use Rattle.model.specs.declared.Phase.{Phase}
use Rattle.model.specs.declared.Phase.TheVariants.{Idle, Waiting, Write, Scan, Adopt, Compare, Flag, CheckMark}
use Rattle.model.specs.declared.Phase.TheVariants.{CheckValue, Commit, Exhausted, Crashed, Decided, HasCommitted, HasAdopted}
use Rattle.model.specs.declared.Process.{Process}
use Rattle.model.specs.Bytes.{bytes32}
use Rattle.model.specs.Export.{decided_value, decided_bytes}

-- A process in a phase with any other tag than that of Decided, 12, has decided nothing.
abbrev others : List ℕ
others = 0 ∷ 1 ∷ 2 ∷ 3 ∷ 4 ∷ 5 ∷ 6 ∷ 7 ∷ 8 ∷ 9 ∷ 10 ∷ 11 ∷ 13 ∷ 14 ∷ []

pub undecided : (f : Phase) (e : ℕ) → OneOf others (tag_of the_type f) → 0 ≡ decided_value f e
undecided Idle e h = refl
undecided Waiting e h = refl
undecided Write e h = refl
undecided (Scan k) e h = refl
undecided (Adopt k) e h = refl
undecided (Compare i) e h = refl
undecided (Flag i) e h = refl
undecided (CheckMark i) e h = refl
undecided (CheckValue i) e h = refl
undecided Commit e h = refl
undecided Exhausted e h = refl
undecided Crashed e h = refl
undecided Decided e h = absurd (miss others 12 tt h)
undecided HasCommitted e h = refl
undecided HasAdopted e h = refl

-- The four bytes of one process.
abbrev pub own : Process → List ℕ
own q = bytes32 (decided_value q.phase q.estimate)

-- Four to a process.
pub length_bytes : (qs : List Process) → length (decided_bytes qs) ≡ 4 * length qs
length_bytes [] = refl
length_bytes (q ∷ qs) = omega (arith, length_bytes qs)

-- Those of one process more come after the others.
last_bytes : (qs : List Process) (q : Process) → decided_bytes (qs ++ (q ∷ [])) ≡ decided_bytes qs ++ own q
last_bytes [] q = refl
last_bytes (x ∷ qs) q = ap (λ (r : List ℕ). own x ++ r) (last_bytes qs q)

-- Four bytes stored at 4 * p: one process more.
pub decided_more : (b : List ℕ) (qs : List Process) (p : ℕ) (d : Process) → p < length qs
    → sets (sets b 0 (decided_bytes (take p qs))) (4 * p) (own (get_or qs p d)) ≡ sets b 0 (decided_bytes (take (p + 1) qs))
decided_more b qs p d h =
    let e : length (decided_bytes (take p qs)) ≡ 4 * p = length_bytes (take p qs) ∙ ap (λ n. 4 * n) (length-take-le p qs (le_of_lt h)) in
    rw (add-one, take-suc qs p d h, last_bytes, sets_append, zero-add, e)
