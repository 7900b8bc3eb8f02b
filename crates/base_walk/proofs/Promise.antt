-- A contract that asks nothing and fixes what the function answers, as a function of the arguments, and what it leaves behind its
-- references.
--     Row              a parameter's or a result's type: its row, how its machine value is spelled, what is had of it at exit, and the laws
--                      that a walk asks
--     by_value         a type of which nothing is said at exit.        uint, truth, struct      an unsigned integer, `bool`, a declared
--                      struct
--     slots, stays, spells, all_tell, fits, all_go, lawfuls      of a list of them, what `Denote/Triple/Walked.antt` and `Denote/Laws.antt`
--                                                                ask of a signature's parameters
--     Promise          what is taken, what is given, the answer, and the last value of each reference that is taken
--     ended            the signature.        Claim, triple      what a contract says of arguments, result and last values, and the contract
--                      that says it. A generated module has the same, by computation
--     token, own_all, on_entry_of, bound      the lifetimes' tokens, what the arguments own, what a call is handed, and the same as the
--                                          contract binds it
--     had              what is had of the parameters at exit
-- What is shown of a Row's laws takes `Logic`. The rest assumes nothing.
use Rattle.std.specs.Prelude.{◌≡◌, ◌∷◌}
use Rattle.base.specs.Prelude.{refl, ℕ, List, []}
use Rattle.base.specs.Walks.{Ura, Logic, Width, Val, vint, vbool, SProp, emp, ex, sep, Fml, ftrue, sem, Lfts, Shares, fact}
use Rattle.base.specs.Walks.{yes, Last, left, RattleType, Denots}
use Rattle.base.specs.Walks.{Valss, owns, Is, Ises, Tells, Tellss, Spells, valss, Lawful, Slot, plain, types_at, Declared, row as row_of}
use Rattle.base.specs.Walks.{UInt, Boolean}
use Rattle.base.specs.Walks.{uint_Tells, uint_Lawful, bool_Tells, bool_Lawful, Ended, Lasts, Fins, all, alive, on_entry, triple_of}
use Rattle.base.specs.Walks.{Contract}
use Rattle.base.specs.Walks.{Stays, fits_of, has_of, Goes, AllGo, Goes-dropped}
use denote.Laws.{Lawfuls}
use denote.Triple.Clauses.{lasts}
use denote.Struct.Laws as LL

pub record Row (n : ℕ) : Type 2 where
  pub row : Lfts n → RattleType
  pub val : (κs : Lfts n) → (row κs).Denot → Val
  pub tells : (κs : Lfts n) → Tells (row κs) (Is (row κs)) (λ x. val κs x ∷ [])
  pub lawful : {M : Type 1} {𝓤 : Ura M} (𝓛 : Logic 𝓤) (κs : Lfts n) → Lawful 𝓛 (row κs)
  pub has : (κs : Lfts n) (x : (row κs).Denot) → Last ((row κs).exit yes) x → List Val → Fml
  pub goes : {M : Type 1} {𝓤 : Ura M} (𝓛 : Logic 𝓤) →
      Goes 𝓛 n (plain row) yes (record { fit = λ κs x w. Unit {0}; has = has })

module _ {n : ℕ} where
  abbrev pub by_value : (R : Lfts n → RattleType) (val : (κs : Lfts n) → (R κs).Denot → Val) →
      ((κs : Lfts n) → Tells (R κs) (Is (R κs)) (λ x. val κs x ∷ []))
      → ((M : Type 1) (𝓤 : Ura M) (𝓛 : Logic 𝓤) (κs : Lfts n) → Lawful 𝓛 (R κs)) →
      ((κs : Lfts n) (x : (R κs).Denot) (w : Last ((R κs).exit yes) x) → left ((R κs).exit yes) x w ≡ ftrue) → Row n
  by_value R val tells lawful silent = record {
    row = R;
    val = val;
    tells = tells;
    lawful = λ {𝓤 = 𝓤} 𝓛. lawful _ 𝓤 𝓛;
    has = λ κs x w vs. ftrue;
    goes = λ 𝓛. Goes-dropped 𝓛 n (plain R) yes silent;
  }

  abbrev pub uint : Width → Row n
  uint w = by_value (λ κs. UInt w) (λ κs. vint w) (λ κs. uint_Tells w) (λ M 𝓤 𝓛 κs. uint_Lawful 𝓛 w) (λ κs x w. refl)

  abbrev pub truth : Row n
  truth = by_value (λ κs. Boolean) (λ κs. vbool) (λ κs. bool_Tells) (λ M 𝓤 𝓛 κs. bool_Lawful 𝓛) (λ κs x w. refl)

  abbrev pub struct : (S : Lfts n → Declared) → ((κs : Lfts n) → LL.Laws (S κs)) →
      ((κs : Lfts n) (x : (S κs).D) (w : Last ((row_of (S κs)).exit yes) x) → left ((row_of (S κs)).exit yes) x w ≡ ftrue) → Row n
  struct S laws = by_value (λ κs. row_of (S κs)) (λ κs. LL.val (S κs) (laws κs)) (λ κs. LL.tells (S κs) (laws κs))
      (λ M 𝓤 𝓛 κs. LL.lawful (S κs) (laws κs) 𝓛)

  -- ---- a list of them, as a signature's parameters
  abbrev pub slots : List (Row n) → List (Slot n)
  slots [] = []
  slots (R ∷ Rs) = plain R.row ∷ slots Rs

  abbrev pub stays : (Rs : List (Row n)) → Stays (slots Rs) (all yes (slots Rs))
  stays [] = tt
  stays (R ∷ Rs) = (record { fit = λ κs x w. Unit {0}; has = R.has }, stays Rs)

  module _ (κs : Lfts n) where
    abbrev pub rows : List (Row n) → List RattleType
    rows Rs = types_at (slots Rs) κs

    abbrev pub spells : (Rs : List (Row n)) → Spells (rows Rs)
    spells [] = tt
    spells (R ∷ Rs) = ((λ x. R.val κs x ∷ []), spells Rs)

    abbrev pub all_tell : (Rs : List (Row n)) → Tellss (rows Rs) (Ises (rows Rs)) (spells Rs)
    all_tell [] = tt
    all_tell (R ∷ Rs) = (R.tells κs, all_tell Rs)

    pub fits : (Rs : List (Row n)) (a : Denots (rows Rs)) (ws : Fins κs (slots Rs) (all yes (slots Rs)) a) →
        fits_of κs (slots Rs) (all yes (slots Rs)) (stays Rs) a ws
    fits [] a ws = tt
    fits (R ∷ Rs) a ws = (tt, fits Rs a.1 ws.1)

  module _ {M : Type 1} {𝓤 : Ura M} (𝓛 : Logic 𝓤) where
    pub all_go : (Rs : List (Row n)) → AllGo 𝓛 n (slots Rs) (all yes (slots Rs)) (stays Rs)
    all_go [] = tt
    all_go (R ∷ Rs) = (R.goes 𝓛, all_go Rs)

    abbrev pub lawfuls : (κs : Lfts n) (Rs : List (Row n)) → Lawfuls 𝓛 (rows κs Rs)
    lawfuls κs [] = tt
    lawfuls κs (R ∷ Rs) = (R.lawful 𝓛 κs, lawfuls κs Rs)

-- ---- the contract
pub record Promise (n : ℕ) : Type 2 where
  pub takes : List (Row n)
  pub gives : Row n
  pub answer : (κs : Lfts n) → Denots (rows κs takes) → (gives.row κs).Denot
  pub ends : (κs : Lfts n) (a : Denots (rows κs takes)) → Fins κs (slots takes) (all yes (slots takes)) a

module _ {n : ℕ} (p : Promise n) where
  abbrev pub ended : Ended
  ended = record {
    signature = record { lifetimes = n; outlives = []; params = slots p.takes; result = plain p.gives.row };
    kept = all yes (slots p.takes);
  }

  abbrev pub Args : Lfts n → Type 0
  Args κs = Denots (rows κs p.takes)

  abbrev pub Claim : Type 1
  Claim = (κs : Lfts n) (a : Args κs) → (p.gives.row κs).Denot → Lasts ended κs a → Type 0

  abbrev pub vals : (κs : Lfts n) → Args κs → Valss (rows κs p.takes)
  vals κs a = valss (rows κs p.takes) (spells κs p.takes) a

  module _ (κs : Lfts n) (a : Args κs) where
    abbrev pub own_all : Fml
    own_all = owns (rows κs p.takes) a (vals κs a)

    abbrev pub had : Fml
    had = has_of κs (slots p.takes) (all yes (slots p.takes)) (stays p.takes) a (p.ends κs a) (vals κs a)

  module _ {M : Type 1} {𝓤 : Ura M} (𝓛 : Logic 𝓤) where
    abbrev pub triple : Claim → Contract 𝓤
    triple says = triple_of 𝓛 ended.signature (λ κs a. record {
      ghost = Unit {0};
      requires = λ _. emp 𝓤;
      ensures = λ _ r. ex 𝓤 (λ (ws : Lasts ended κs a). sep 𝓤 (sem 𝓛 (lasts ended κs a ws)) (fact 𝓤 (says κs a r ws)));
    })

    abbrev pub token : Lfts n → Shares n → SProp 𝓤
    token = alive 𝓛 ended.signature

    abbrev pub on_entry_of : (κs : Lfts n) → Shares n → Args κs → SProp 𝓤
    on_entry_of κs qs a = on_entry 𝓛 ended.signature κs qs a (vals κs a)

    abbrev pub bound : (says : Claim) (κs : Lfts n) → Shares n → Args κs → (triple says).Ghost
    bound says κs qs a = ((κs, qs, tt, a, vals κs a), tt)
