-- A list of calls for every window W in which two turns commit different values, in 2W - 1 rounds. In the first W of them it comes to a
-- commit and then to a write of the other value in the same round.
--
-- Epoch i is the time in which round i is the highest one written. Each epoch from 1 to W - 1 has two passes: in the first a process passes
-- round i with one value, then every register 1 to i is written over, and in the second another process passes it with the other value. So
-- at the end two processes stand before the write to register W, one with each value, the registers below hold the one, and nothing is
-- marked.
use Rattle.std.specs.Prelude.{ℕ, suc, zero, ◌+◌, ◌-◌, ◌*◌, Bool, true, cond, not, ◌||◌, List, [], ◌∷◌, ◌++◌, map, ltb, eqb, replicate}
use Rattle.model_laws.specs.Types.{Command, acts, Operation, Propose, Learn}
use Rattle.model_rule_cases.specs.Play.{works}

-- ---- numbers

-- k, k + 1, .., k + length - 1.
abbrev pub from : (k length : ℕ) → List ℕ
from k zero = []
from k (suc m) = k ∷ from (suc k) m

-- k, k + 2, .., below the end, at most `most` of them.
abbrev every_second : (most k end : ℕ) → List ℕ
every_second zero k end = []
every_second (suc m) k end = cond (ltb k end) (k ∷ every_second m (k + 2) end) []

abbrev is_even : ℕ → Bool
is_even zero = true
is_even (suc k) = not (is_even k)

abbrev concat : List (List Operation) → List Operation
concat [] = []
concat (ms ∷ rest) = ms ++ concat rest

abbrev count : List ℕ → ℕ
count [] = 0
count (x ∷ xs) = x + count xs

-- ---- the processes

-- A process that stands before its write to a register, and the pass in which it writes. (Pass 2i is the first of epoch i, 2i + 1 the
-- second.)
pub record Ready : Type 0 where
  pub process : ℕ
  pub register : ℕ
  pub pass : ℕ

-- A process that waits in a round, which it came to in that pass. (01: gate.)
pub record Free : Type 0 where
  pub process : ℕ
  pub round : ℕ
  pub pass : ℕ

-- How the list stands: its operations so far, the processes, and how many have proposed.
pub record Standing : Type 0 where
  pub operations : List Operation
  pub ready : List Ready
  pub free : List Free
  pub proposed : ℕ

-- ---- the values

-- The value of the second pass of epoch e: 1 in epoch W - 1, 2 in the one before, and so by turns.
abbrev second_value : (W e : ℕ) → ℕ
second_value W e = cond (is_even (W - 1 - e)) 1 2

-- The value of the first pass.
abbrev first_value : (W e : ℕ) → ℕ
first_value W e = 3 - second_value W e

-- ---- one pass

-- The processes whose pass it is, and the others.
abbrev due : (t : ℕ) → List Ready → List Ready
due t [] = []
due t (r ∷ rs) = cond (eqb r.pass t) (r ∷ due t rs) (due t rs)

abbrev not_due : (t : ℕ) → List Ready → List Ready
not_due t [] = []
not_due t (r ∷ rs) = cond (eqb r.pass t) (not_due t rs) (r ∷ not_due t rs)

-- The processes whose pass it is write, and when all have written, each compares the rounds down to 1, finds no difference and waits.
abbrev writes : List Ready → List Operation
writes rs = map (λ (r : Ready). works r.process) rs

abbrev compares : List Ready → List Operation
compares rs = concat (map (λ (r : Ready). replicate r.register (works r.process)) rs)

abbrev freed : List Ready → List Free → List Free
freed [] fs = fs
freed (r ∷ rs) fs = freed rs (record { process = r.process; round = r.register; pass = r.pass } ∷ fs)

unfoldable pub with_write : (t : ℕ) → Standing → Standing
with_write t s =
    let rs = due t s.ready in
    record {
      operations = s.operations ++ writes rs ++ compares rs;
      ready = not_due t s.ready;
      free = freed rs s.free;
      proposed = s.proposed;
    }

-- The passes for which processes must come to stand before register j, in the pass t of epoch j - 1: to register W one with each value; to
-- a lower one its first writer, and those who write over it in the epochs from j on whose value is that of this pass.
abbrev passes_for : (W j t : ℕ) → List ℕ
passes_for W j t =
    cond (is_even t)
    (cond (eqb j W) ((2 * W + 1) ∷ []) (map (λ (e : ℕ). 2 * e + 1) (every_second W j W)))
    ((2 * j) ∷ map (λ (e : ℕ). 2 * e + 1) (every_second W (j + 1) W))

-- A free process can take the pass' value to register i + 1 if it is in a lower round than i, where it adopts the value, or came to round i
-- in this pass.
abbrev fits : (i t : ℕ) → Free → Bool
fits i t f = ltb f.round i || eqb f.pass t

-- The first free process that fits, or a new one; its operations up to the place before the write to register i + 1.
unfoldable pub goes_on_to : (i t : ℕ) → (later : ℕ) → (before fs : List Free) → Standing → Standing
goes_on_to i t later before [] s =
    record {
      operations = s.operations ++ Propose s.proposed 1 ∷ replicate (2 * i + 3) (works s.proposed);
      ready = s.ready ++ record { process = s.proposed; register = i + 1; pass = later } ∷ [];
      free = before;
      proposed = suc s.proposed;
    }
goes_on_to i t later before (f ∷ fs) s =
    cond (fits i t f)
    (record {
      operations = s.operations ++ replicate (cond (eqb f.round i) 1 (2 * i + 3 - f.round)) (works f.process);
      ready = s.ready ++ record { process = f.process; register = i + 1; pass = later } ∷ [];
      free = before ++ fs;
      proposed = s.proposed;
    })
    (goes_on_to i t later (before ++ f ∷ []) fs s)

unfoldable pub all_go_on : (i t : ℕ) → List ℕ → Standing → Standing
all_go_on i t [] s = s
all_go_on i t (later ∷ rest) s = all_go_on i t rest (goes_on_to i t later [] s.free s)

unfoldable pub one_pass : (W i t : ℕ) → Standing → Standing
one_pass W i t s = all_go_on i t (passes_for W (i + 1) t) (with_write t s)

unfoldable pub epochs : (W : ℕ) → List ℕ → Standing → Standing
epochs W [] s = s
epochs W (i ∷ is) s = epochs W is (one_pass W i (2 * i + 1) (one_pass W i (2 * i) s))

-- ---- the list

-- W processes stand before the write to register 1: its first writer, and one for each epoch.
unfoldable pub at_first : (W : ℕ) → Standing
at_first W =
    record {
      operations =
          (Propose 0 (first_value W 1) ∷ map (λ (e : ℕ). Propose e (second_value W e)) (from 1 (W - 1))) ++ map works (from 0 W);
      ready =
          record { process = 0; register = 1; pass = 2 }
          ∷ map (λ (e : ℕ). record { process = e; register = 1; pass = 2 * e + 1 }) (from 1 (W - 1));
      free = [];
      proposed = W;
    }

-- After all epochs.
unfoldable pub at_last : (W : ℕ) → Standing
at_last W = epochs W (from 1 (W - 1)) (at_first W)

-- The process whose pass it is.
abbrev process_due : (t : ℕ) → List Ready → ℕ
process_due t [] = 0
process_due t (r ∷ rs) = cond (eqb r.pass t) r.process (process_due t rs)

-- The two before the write to register W: with the value 1, and with 2.
abbrev pub with_one : (W : ℕ) → Standing → ℕ
with_one W s = process_due (2 * W) s.ready

abbrev pub with_two : (W : ℕ) → Standing → ℕ
with_two W s = process_due (2 * W + 1) s.ready

-- The first one writes, compares, checks and commits in so many steps.
abbrev pub commit_steps : (W : ℕ) → ℕ
commit_steps W = 3 * W + 2

-- The steps of a process alone from the write to register W + m on: the other value stands in the registers below W.
abbrev pub last_steps : (W m : ℕ) → ℕ
last_steps W m =
    (cond (eqb m 0) 0 1) + 1 + W + (W - 1 - m) + (cond (eqb (m + 1) W) (2 * W + 1) (2 * m + 3))

-- The list in two parts, and the two processes that come to register W. In the first part, for which W rounds are enough, one of them
-- writes, compares, checks, commits 1 and looks; then the other writes 2 over it. In the second part the other goes on alone to round 2W -
-- 1, commits 2 there and looks.
pub record Plan : Type 0 where
  pub one : ℕ
  pub other : ℕ
  pub first : List Command
  pub second : List Command

unfoldable pub construction : (W : ℕ) → Plan
construction W =
    let s = at_last W in
    let one = with_one W s in
    let other = with_two W s in
    record {
      one = one;
      other = other;
      first = map acts (s.operations ++ replicate (commit_steps W) (works one) ++ Learn one ∷ works other ∷ []);
      second = map acts (replicate (count (map (last_steps W) (from 0 W)) - 1) (works other) ++ Learn other ∷ []);
    }
