-- The answer of an operation, by the number of its first refusal and by what is left where it is 0.
use Rattle.std.specs.Prelude.{◌<◌, ◌%◌, ◌≡◌, ◌∷◌, Option, Some, None, [], get_or}
use Rattle.base.specs.Prelude.{ℕ, suc, zero, arith, refl, sym, ◌∙◌, ap, Bool, true, false, cond, not, List, leb}
use Rattle.base.specs.Prelude.{leb-false}
use Rattle.model_laws.specs.Types.{Phase, Waiting, Crashed, Process, Session, Counts, Stepped, Operation, Propose, Step, Learn, Crash}
use Rattle.model.specs.declared.refusal.Refusal.{Refusal}
use Rattle.model.specs.declared.refusal.Refusal.TheVariants.{BadProcessCount, BadRoundLimit, Unsound, NoSuchProcess, BlankProposal, SecondProposal, ProcessOut, ProcessGone}
use Rattle.model.specs.declared.refusal.Refusal.TheVariants.{ProcessSpent, BadSheet, BadPairs, BadRun, BadEntry, NoSuchRound, BadBuffer}
use Rattle.model.specs.declared.refusal.Refusal.TheVariants.{CountsFull, BadCuts, ClosedToProposals, BadWards, IllegalList, LastList}
use Rattle.model.specs.Board.{process_at, with_process, no_counts}
use Rattle.model.specs.Window.{window}
use Rattle.model.specs.Step.{counted, turn, stored, found, learnt, process}
use Rattle.model.specs.Numbers.{unsound, no_such_process, number}
use Rattle.model.specs.Refusal.{Test, refusal, tests, process_tests, stepped, full}
use Rattle.model.specs.Machine.{access_of, becomes, after, counts_after, answered, perform, process_of}
use Rattle.model.specs.Public.{operate_for_as, propose_for_as, crash_for_as, operate_as, with_counts, without_counts}
use Rattle.model.specs.Sound.{sound_for_as, sound_as}
use Rattle.base.specs.Bools.{cond_same}
use Rattle.model_laws.specs.Accepted.{NoneHolds, own_tests, tests_are, Accepted, accepted}
use Rattle.model_laws.specs.Sounds.{sound_few}

-- The number of the first refusal of a public operation, on a session or (poll true) on a poll.
abbrev pub code_as : (poll : Bool) → Session → Counts → Operation → ℕ
code_as poll s c o = refusal ((not (sound_as poll s), unsound) ∷ tests s c o)

abbrev pub code_of : Session → Counts → Operation → ℕ
code_of s c o = code_as false s c o

-- ---- refused and accepted

-- The refusal of a number: none of 0, which is accepted.
abbrev refusal_of : ℕ → Option Refusal
refusal_of k =
    get_or
    (None ∷ Some BadProcessCount ∷ Some BadRoundLimit ∷ Some Unsound ∷ Some NoSuchProcess ∷
    Some BlankProposal ∷ Some SecondProposal ∷ Some ProcessOut ∷ Some ProcessGone ∷
    Some ProcessSpent ∷ Some BadSheet ∷ Some BadPairs ∷ Some BadRun ∷ Some BadEntry ∷
    Some NoSuchRound ∷ Some BadBuffer ∷ Some CountsFull ∷ Some BadCuts ∷
    Some ClosedToProposals ∷ Some BadWards ∷ Some IllegalList ∷ Some LastList ∷ [])
    k None

read_back : (e : Refusal) → refusal_of (number e) ≡ Some e
read_back BadProcessCount = refl
read_back BadRoundLimit = refl
read_back Unsound = refl
read_back NoSuchProcess = refl
read_back BlankProposal = refl
read_back SecondProposal = refl
read_back ProcessOut = refl
read_back ProcessGone = refl
read_back ProcessSpent = refl
read_back BadSheet = refl
read_back BadPairs = refl
read_back BadRun = refl
read_back BadEntry = refl
read_back NoSuchRound = refl
read_back BadBuffer = refl
read_back CountsFull = refl
read_back BadCuts = refl
read_back ClosedToProposals = refl
read_back BadWards = refl
read_back IllegalList = refl
read_back LastList = refl

-- No two refusals have one number.
pub number_own : (d e : Refusal) → number d ≡ number e → d ≡ e
number_own d e same = let back = sym (read_back d) ∙ ap refusal_of same ∙ read_back e in cc

-- No refusal has the number 0.
pub number_some : (e : Refusal) → number e ≡ 0 → ⊥
number_some e none = let back = sym (read_back e) ∙ ap refusal_of none in absurd (cc)

-- Two answers by a number that agree at each number but 0 agree where a call is refused.
pub refused_alike : {A : Type 0} (f g : ℕ → A) → ((m : ℕ) → f (suc m) ≡ g (suc m)) → {k m : ℕ} → k ≡ m → (k ≡ 0 → ⊥) → f k ≡ g m
refused_alike f g alike {k = zero} told some = absurd (some refl)
refused_alike f g alike {k = suc k} told some = rw (← told) (alike k)

-- A session and counts with the number 0, or with another number that is the refusal's.
pub stepped_accepted : (s : Session) (c : Counts) {k m : ℕ} {t u : Session} {d e : Counts} → k ≡ m → k ≡ 0 → u ≡ t → e ≡ d →
    record { code = k; session = u; counts = e } ≡ stepped m s t c d
stepped_accepted s c ek none eu ee = rw (← ek, none, eu, ee)

pub stepped_refused : (t : Session) (d : Counts) {k m : ℕ} {s : Session} {c : Counts} → k ≡ m → (k ≡ 0 → ⊥) →
    record { code = k; session = s; counts = c } ≡ stepped m s t c d
stepped_refused t d {s = s} {c = c} =
    refused_alike {A = Stepped} (λ k. record { code = k; session = s; counts = c }) (λ m. stepped m s t c d) (λ m. refl)

pub stepped_code : (m : ℕ) (s t : Session) (c d : Counts) → (stepped m s t c d).code ≡ m
stepped_code zero s t c d = refl
stepped_code (suc m) s t c d = refl

-- An operation that leaves the counts leaves any counts.
pub stepped_counts : (m : ℕ) (s t : Session) (c d : Counts) → with_counts (without_counts (stepped m s t c c)) d ≡ stepped m s t d d
stepped_counts zero s t c d = refl
stepped_counts (suc m) s t c d = refl

-- ---- the public operations, at any window

module _ (poll : Bool) (W : ℕ) (s : Session) (c : Counts) where
  -- A sound session, or poll, is answered as the machine answers.
  pub operate_sound : (o : Operation) → sound_for_as poll W s ≡ true → operate_for_as poll W s c o ≡ perform W s c o
  unfolding operate_for_as perform answered
  operate_sound o ok = rw ok

  -- What the machine answers where it accepts.
  pub perform_accepted : (o : Operation) → refusal (tests s c o) ≡ 0 →
      perform W s c o ≡ record { code = 0; session = after W s o; counts = counts_after s c o }
  unfolding perform answered
  perform_accepted o ok = rw ok

  -- A proposal and a crash leave any counts.
  pub propose_counts : (p v : ℕ) → with_counts (propose_for_as poll W s p v) c ≡ operate_for_as poll W s c (Propose p v)
  unfolding propose_for_as operate_for_as answered counts_after access_of counted
  propose_counts p v = stepped_counts (refusal ((not (sound_for_as poll W s), unsound) ∷ tests s c (Propose p v))) s
      (after W s (Propose p v)) no_counts c

  pub crash_counts : (p : ℕ) → with_counts (crash_for_as poll W s p) c ≡ operate_for_as poll W s c (Crash p)
  unfolding crash_for_as operate_for_as answered counts_after access_of counted
  crash_counts p = stepped_counts (refusal ((not (sound_for_as poll W s), unsound) ∷ tests s c (Crash p))) s (after W s (Crash p)) no_counts c

-- ---- in service

-- What an accepted operation knows.
pub admitted : (poll : Bool) (s : Session) (c : Counts) (o : Operation) → code_as poll s c o ≡ 0 → (sound_as poll s ≡ true) × Accepted s c o
admitted poll s c o e = go (sound_as poll s) refl e
  where
    go : (b : Bool) → sound_as poll s ≡ b → cond (not b) unsound (refusal (tests s c o)) ≡ 0 → (sound_as poll s ≡ true) × Accepted s c o
    go true eb e' = (eb, accepted s c o e')
    go false eb e' = absurd (omega arith)

-- Where an accepted operation counts a register operation, the counts are not full: the code's own test of that changes nothing.
pub accepted_counts : (L : ℕ) (q : Process) (x : ℕ) (closed : Bool) (c : Counts) (o : Operation) → NoneHolds (own_tests closed q.phase c o) →
    cond (full c) c (counted (access_of L q o) x c) ≡ counted (access_of L q o) x c
unfolding access_of counted
accepted_counts L q x closed c (Propose p v) own = cond_same (full c) c
accepted_counts L q x closed c (Step p leader) own = rw own.1.1.1.0
accepted_counts L q x closed c (Learn p) own = rw own.1.1.0
accepted_counts L q x closed c (Crash p) own = cond_same (full c) c

-- A sound session has few processes, so that the index at which the code reads one is its number.
pub index_is : (poll : Bool) (s : Session) (p : ℕ) → sound_as poll s ≡ true → p < s.n → p % 64 ≡ p
index_is poll s p t below = omega (arith, sound_few poll s t)

-- The number of a call on process p, by its own tests on the record that the code reads.
pub first_is : (poll : Bool) (s : Session) (p : ℕ) (own : Phase → List Test) {b : Bool} {o k : ℕ} → b ≡ sound_as poll s →
    o ≡ refusal (own (process_at s (p % 64)).phase) →
    k ≡ cond (not b) unsound (cond (leb s.n p) no_such_process o) →
    k ≡ refusal ((not (sound_as poll s), unsound) ∷ process_tests s p own)
first_is poll s p own eb eo ek = ek ∙ rw (eb, eo) (go (sound_as poll s) (leb s.n p) refl refl)
  where
    go : (b t : Bool) → sound_as poll s ≡ b → leb s.n p ≡ t →
        cond (not b) unsound (cond t no_such_process (refusal (own (process_at s (p % 64)).phase)))
        ≡ cond (not b) unsound (cond t no_such_process (refusal (own (process_at s p).phase)))
    go true true eb et = refl
    go true false eb et = rw (index_is poll s p eb (leb-false s.n p et))
    go false t eb et = refl

module _ (poll : Bool) (s : Session) (c : Counts) (o : Operation) where
  -- The number, with the own tests made on the record that the code reads.
  pub code_is : {b : Bool} {own k : ℕ} → b ≡ sound_as poll s →
      own ≡ refusal (own_tests s.closed (process_at s (process_of o % 64)).phase c o) →
      k ≡ cond (not b) unsound (cond (leb s.n (process_of o)) no_such_process own) →
      k ≡ code_as poll s c o
  code_is eb eo ek = rw (tests_are s c o) (first_is poll s (process_of o) (λ φ. own_tests s.closed φ c o) eb eo ek)

  module _ {k : ℕ} (code : k ≡ code_as poll s c o) where
    pub operate_refused : (k ≡ 0 → ⊥) → record { code = k; session = s; counts = c } ≡ operate_as poll s c o
    unfolding operate_for_as answered sound_as
    operate_refused some = stepped_refused _ _ code some

    module _ (none : k ≡ 0) where
      -- What the accepted operation knows.
      pub known : (sound_as poll s ≡ true) × Accepted s c o
      known = admitted poll s c o (sym code ∙ none)

      pub index_of : process_of o % 64 ≡ process_of o
      index_of = index_is poll s (process_of o) known.0 known.1.below

      -- The session and the counts that the code leaves.
      pub operate_accepted : {t : Session} {d : Counts} → t ≡ after (window s.n) s o →
          d ≡ cond (full c) c (counts_after s c o) →
          record { code = k; session = t; counts = d } ≡ operate_as poll s c o
      unfolding operate_for_as answered counts_after sound_as
      operate_accepted et ed = stepped_accepted s c code none et (ed ∙ accepted_counts s.limit _ _ s.closed c o known.1.own)

-- The same of an operation that is lent no counts.
module _ (poll : Bool) (s : Session) (o : Operation) {k : ℕ} (code : k ≡ code_as poll s no_counts o) where
  pub uncounted_refused : (k ≡ 0 → ⊥) → record { code = k; session = s } ≡ without_counts (operate_as poll s no_counts o)
  uncounted_refused some = ap without_counts (operate_refused poll s no_counts o code some)

  pub uncounted_accepted : k ≡ 0 → {t : Session} → t ≡ after (window s.n) s o →
      record { code = k; session = t } ≡ without_counts (operate_as poll s no_counts o)
  uncounted_accepted none et = ap without_counts (operate_accepted poll s no_counts o code none et refl)

-- ---- what an accepted operation that writes no register leaves

module _ (W : ℕ) (s : Session) where
  pub proposed_is : (p v : ℕ) {i : ℕ} {q : Process} → i ≡ p → q ≡ process Waiting (process_at s i).round v →
      with_process s i q ≡ after W s (Propose p v)
  unfolding after turn stored access_of becomes
  proposed_is p v ei eq = rw (eq, ei)

  pub crashed_is : (p : ℕ) {i : ℕ} {q : Process} → i ≡ p → q ≡ process Crashed (process_at s i).round (process_at s i).estimate →
      with_process s i q ≡ after W s (Crash p)
  unfolding after turn stored access_of becomes
  crashed_is p ei eq = rw (eq, ei)

  pub learnt_is : (p : ℕ) {i : ℕ} {q : Process} → i ≡ p → q ≡ learnt (process_at s i) s.decision →
      with_process s i q ≡ after W s (Learn p)
  unfolding after turn stored access_of becomes found
  learnt_is p ei eq = rw (eq, ei)
