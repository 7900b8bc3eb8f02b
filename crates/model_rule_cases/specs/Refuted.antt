-- For each part of the agreement rule: what a session and its past may show, by computation, and that the rule is then false of them; and
-- what a list of calls may show, if the proposals do not stand after a close.
-- Theorem edits use it (tests/theorem_edits.py): their lists of calls show such things of changed machines.
use Rattle.std.specs.Prelude.{◌≡◌, ◌&&◌, ◌∷◌}
use Rattle.base.specs.Prelude.{ℕ, refl, sym, ◌∙◌, ap, Bool, true, false, true≢false, cond, List, [], length, leb, eqb}
use Rattle.base.specs.Prelude.{leb-true, eqb-true, eq-eqb}
use Rattle.base.specs.Bools.{and_left, and_right, cond_cases}
use Rattle.model.specs.declared.Phase.TheVariants.{Decided}
use Rattle.model.specs.declared.Session.{Session}
use Rattle.model.specs.Board.{process_at}
use Rattle.model.specs.Machine.{Command, acts, closes}
use Rattle.model_rule.specs.Event.{Event, proposal, write, commit, decision, proposals, Past, here, there}
use Rattle.model_rule.specs.System.{inputs, past}
use Rattle.model_rule.specs.Calls.{sessions, SessionCall}
use Rattle.model_rule.specs.Rule.{Rule, ProposalsStand}
use Rattle.model_rule_cases.specs.Events.{occurs, occurs_happened, past_occurs}

-- What is shown, and why no rule allows it.
pub record Refutation : Type 1 where
  pub Shown : Session → List Event → Type 0
  pub refuted : {s : Session} {h : List Event} → Shown s h → Rule s h → ⊥

-- What a test finds unlike is not alike.
pub unlike : {u v : ℕ} → eqb u v ≡ false → u ≡ v → ⊥
unlike {u} {v} t e = true≢false (sym (eq-eqb u v e) ∙ t)

-- An older part of an older part is one.
pub older : {A : Type 0} {g h' h : List A} → Past g h' → Past h' h → Past g h
older g here = g
older g (there k) = there (older g k)

-- `holds`: process p decided v, and its record holds another number.
abbrev pub no_longer_held : (p v : ℕ) → Refutation
no_longer_held p v =
    record {
      Shown = λ s h. (occurs (decision p v) h ≡ true) × (eqb (process_at s p).estimate v ≡ false);
      refuted = λ {s} {h} shown rule. unlike shown.1 (rule.holds p v (occurs_happened (decision p v) h shown.0)).1;
    }

-- `looked`: the record of process p says that it is decided and holds v, and it did not decide v.
abbrev pub never_looked : (p v : ℕ) → Refutation
never_looked p v =
    record {
      Shown = λ s h. ((process_at s p).phase ≡ Decided) × ((process_at s p).estimate ≡ v) × (occurs (decision p v) h ≡ false);
      refuted = λ {s} {h} shown rule. true≢false (sym (past_occurs (decision p v) (rule.looked p v (shown.0, shown.1)).past)
          ∙ shown.2);
    }

-- `agreement`: process p decided u, and process q decided v, another number.
abbrev pub two_numbers : (p u q v : ℕ) → Refutation
two_numbers p u q v =
    record {
      Shown = λ s h. (occurs (decision p u) h ≡ true) × (occurs (decision q v) h ≡ true) × (eqb u v ≡ false);
      refuted =
          λ {s} {h} shown rule.
          unlike shown.2
          (rule.agreement p q u v (occurs_happened (decision p u) h shown.0) (occurs_happened (decision q v) h shown.1));
    }

-- `validity`: process p decided v, which was never proposed.
abbrev pub not_proposed : (p v : ℕ) → Refutation
not_proposed p v =
    record {
      Shown = λ s h. (occurs (decision p v) h ≡ true) × (occurs (proposal v) h ≡ false);
      refuted =
          λ {s} {h} shown rule.
          let f = rule.validity p v (occurs_happened (decision p v) h shown.0) in
          true≢false (sym (past_occurs (proposal v) (older (there f.proposed.past) f.commits)) ∙ shown.1);
    }

-- `commitment`: v is committed in round R, and process p wrote u, another number, to the register of round r, R or a later one.
abbrev pub written_later : (R v p r u : ℕ) → Refutation
written_later R v p r u =
    record {
      Shown = λ s h. (occurs (commit R v) h ≡ true) × (occurs (write p r u) h ≡ true) × (leb R r ≡ true) × (eqb u v ≡ false);
      refuted =
          λ {s} {h} shown rule.
          unlike shown.3
          (rule.commitment R r u v (occurs_happened (commit R v) h shown.0) (p, occurs_happened (write p r u) h shown.1)
          (leb-true R r shown.2));
    }

-- ---- after a close

-- Whether a command is a close.
abbrev is_close : Command → Bool
is_close (acts o) = false
is_close closes = true

close_is : (x : Command) → is_close x ≡ true → x ≡ closes
close_is (acts o) t = absurd (true≢false (sym t))
close_is closes t = refl

module _ (W : ℕ) (start : Session) where
  -- How many numbers were proposed by the end of the calls.
  abbrev pub proposed_by : List SessionCall → ℕ
  proposed_by cs = length (proposals (past (sessions W) start (inputs cs)))

  -- Whether one of the calls is a close, by which k numbers had been proposed.
  abbrev pub closed_with : (k : ℕ) → List SessionCall → Bool
  closed_with k [] = false
  closed_with k (c ∷ cs) = cond (is_close c.input.operation && eqb (proposed_by cs) k) true (closed_with k cs)

  -- Where by each close m had been proposed, m is k.
  each_close : (m k : ℕ) (cs : List SessionCall) → closed_with k cs ≡ true →
      ((c : SessionCall) (older : List SessionCall) → Past (c ∷ older) cs → c.input.operation ≡ closes → m ≡ proposed_by older) → m ≡ k
  each_close m k [] t each = absurd (true≢false (sym t))
  each_close m k (c ∷ cs) t each =
      let close = is_close c.input.operation in
      let many = eqb (proposed_by cs) k in
      cond_cases (λ (b : Bool). b ≡ true → m ≡ k) (close && many)
      (λ u v. each c cs here (close_is _ (and_left close many u)) ∙ eqb-true (proposed_by cs) k (and_right close many u))
      (λ u v. each_close m k cs v (λ d older at. each d older (there at))) t

  -- `ProposalsStand`: k numbers had been proposed by a close, and by the end of the calls m, another number of them.
  abbrev pub ProposedSince : (k m : ℕ) → List SessionCall → Type 0
  ProposedSince k m cs = (closed_with k cs ≡ true) × (proposed_by cs ≡ m) × (eqb m k ≡ false)

  pub proposed_since : (k m : ℕ) (cs : List SessionCall) → ProposedSince k m cs → ProposalsStand W start cs → ⊥
  proposed_since k m cs shown stand =
      unlike shown.2 (each_close m k cs shown.0 (λ c older at close. sym shown.1 ∙ ap length (stand c older at close)))
