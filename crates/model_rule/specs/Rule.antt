-- The agreement rule (document 01, "The agreement rule"; demand 3 of the order).
use Rattle.std.specs.Prelude.{ℕ, ◌*◌, ◌≤◌, ◌≡◌, List, ◌∷◌}
use Rattle.model.specs.declared.Phase.TheVariants.{Decided}
use Rattle.model.specs.declared.Session.{Session}
use Rattle.model.specs.declared.Caller.{Caller}
use Rattle.model.specs.declared.Limits.{Limits}
use Rattle.model.specs.Window.{window}
use Rattle.model.specs.Board.{limits_of, UpToServer, process_at}
use Rattle.model.specs.Machine.{closes, opening_for}
use Rattle.model_rule.specs.Event.{Event, Past, Proposed, proposals, Written, Committed, DecidedOn}
use Rattle.model_rule.specs.Event.Event.{commit}
use Rattle.model_rule.specs.System.{machine, past, inputs, EachAsTheMachine, AfterEach}
use Rattle.model_rule.specs.Calls.{sessions, SessionCall, RunWith}

-- v was proposed before it first stood in D: before the first commit of v.
pub record ProposedFirst (v : ℕ) (h : List Event) : Type 0 where
  pub round : ℕ
  pub before : List Event
  pub commits : Past (commit round v ∷ before) h
  pub first : (r : ℕ) → Committed r v before → ⊥
  pub proposed : Proposed v before

-- The seat's record says that it is decided and holds v.
abbrev pub Holds : Session → (p v : ℕ) → Type 0
Holds s p v = ((process_at s p).phase ≡ Decided) × ((process_at s p).estimate ≡ v)

-- What holds of a session s and the past h of the machine that came to it.
pub record Rule (s : Session) (h : List Event) : Type 0 where
  -- a seat whose accepted look found v in D is decided and holds v, and the other way round
  pub holds : (p v : ℕ) → DecidedOn p v h → Holds s p v
  pub looked : (p v : ℕ) → Holds s p v → DecidedOn p v h
  -- any two decided seats hold the same number
  pub agreement : (p q u v : ℕ) → DecidedOn p u h → DecidedOn q v h → u ≡ v
  -- a decided seat's number was proposed before it first stood in the decision register
  pub validity : (p v : ℕ) → DecidedOn p v h → ProposedFirst v h
  -- a value committed in round R is the only one written to the register of round R or a later one, before or after
  pub commitment : (R r u v : ℕ) → Committed R v h → Written r u h → R ≤ r → u ≡ v

-- 02, wish 10: "after a close the set of proposals no longer changes". The call c is a close, and `older` are the calls before it: what was
-- proposed by the end is what was proposed by then, no number more and none twice.
abbrev pub ProposalsStand : (W : ℕ) → (start : Session) → List SessionCall → Type 0
ProposalsStand W start cs =
    (c : SessionCall) (older : List SessionCall) → Past (c ∷ older) cs → c.input.operation ≡ closes →
    proposals (past (sessions W) start (inputs cs)) ≡ proposals (past (sessions W) start (inputs older))

-- The claim, within a caller's limits, of n processes and round limit L, where w n is the window of n processes.
-- `RunWith`: "The list starts from the session of any accepted opening. Each call is given the session that the last one returned or,
-- refused, left."
-- `machine`, `past`: "Its words are meant by the machine above, begun at that opening. For each call the machine is fed the operation with
-- its seat, number, hint and tally, as far as it has them, and never the session. A call that the table below refuses leaves the machine as
-- it is."
-- `EachAsTheMachine`, `AfterEach`: "After each call, refused or not, its answer, the tally and the session (n, L, registers, marks, D and
-- seat records) equal the machine's, and the rule holds of that session." 02, wish 10: the rule takes "the mark among what it compares": a
-- session holds the closed mark, and whole sessions are compared.
abbrev pub AgreementWithin : Limits → (w : ℕ → ℕ) → (n L : ℕ) → Type 0
AgreementWithin most w n L =
    let start = opening_for most (w n) n L in
    let M = sessions (w n) in
    start.code ≡ 0
    → (cs : List SessionCall) (s : Session)
    → RunWith w start.session cs s
    → EachAsTheMachine M start.session cs
    × (s ≡ machine M start.session (inputs cs))
    × AfterEach M (λ t ds. Rule t (past M start.session (inputs ds)) × ProposalsStand (w n) start.session ds) start.session cs

-- 02, wish 9: "Agreement and step rules are shown once for any limits up to the server's."
abbrev pub AgreementWith : (w : ℕ → ℕ) → (n L : ℕ) → Type 0
AgreementWith w n L = (most : Limits) → UpToServer most → AgreementWithin most w n L

-- 02, wish 7: "Show the agreement rule for every window W of at least 2 with W times W at least 4n, the window a parameter of the machine,
-- for all n at once." (An opening accepts 1 or more processes, so that a window with W times W at least 4n is at least 2.) A window that is
-- one number for every n is `λ m. W`.
abbrev pub EveryWindow : Type 0
EveryWindow = (w : ℕ → ℕ) (n L : ℕ) → 4 * n ≤ w n * w n → AgreementWith w n L

-- The claim in service,
abbrev pub AgreementRule : Type 0
AgreementRule = (n L : ℕ) → AgreementWith window n L

-- and of each of the two callers: `AgreementWithin` is of its `opening` then.
abbrev pub CallerAgreement : Type 0
CallerAgreement = (caller : Caller) (n L : ℕ) → AgreementWithin (limits_of caller) window n L
