-- The one pass over the records: its test of a record and its number is the two tests of the contract, of those from n on and of all.
use Rattle.std.specs.Prelude.{◌+◌, ◌-◌, ◌≡◌, ◌&&◌, ◌||◌, ◌∷◌}
use Rattle.std.specs.List.{list_all, enumerate_from}
use Rattle.std.proofs.Common.{rules, tests}
use Rattle.std.proofs.lemmas.Iterator.{YieldsList-from_slice}
use Rattle.std.proofs.lemmas.Iterator.Consumers.{YieldsList-from_enumerate}
use Rattle.std.proofs.lemmas.Iterator.Search.{all_from_yields_List}
use Rattle.base.specs.Prelude.{ℕ, suc, Bool, true, false, List, [], ltb, drop, refl, ◌∙◌, sym, ap, arith, ltb-true, ltb-false, and-false, drop_of_length-le}
use Rattle.model_laws.specs.Types.{Process}
use Rattle.model.specs.Sound.{every, sound_process_as, poll_registers}
use Rattle.model_laws.specs.SoundTests.{outside, records_left}
use Rattle.session_sound.proofs.sound_as.Goals as goal
use Rattle.session_sound.proofs.sound_as.Goals.{then-rounds, else-rounds}

turned : (p q a b : Bool) → ((p && q) && (a && b)) ≡ ((p && a) && (q && b))
turned true true a b = refl
turned true false a b = sym (and-false a)
turned false q a b = refl

module _ {A : Type 0} (P Q : A → Bool) (n : ℕ) where
  one_pass : (i : ℕ) (xs : List A)
      → list_all (λ (p : ℕ × A). (ltb p.0 n || P p.1) && Q p.1) (enumerate_from i xs) ≡ (every P (drop (n - i) xs) && every Q xs)
  one_pass i [] = rw (drop_of_length-le {A = A} [] {i = n - i} (omega arith)) refl
  one_pass i (x ∷ xs) = by (ltb i n) refl (one_pass (i + 1) xs)
    where
      by : (b : Bool) → ltb i n ≡ b
          → list_all (λ (p : ℕ × A). (ltb p.0 n || P p.1) && Q p.1) (enumerate_from (i + 1) xs) ≡ (every P (drop (n - (i + 1)) xs) && every Q xs)
          → (((ltb i n || P x) && Q x) && list_all (λ (p : ℕ × A). (ltb p.0 n || P p.1) && Q p.1) (enumerate_from (i + 1) xs))
          ≡ (every P (drop (n - i) (x ∷ xs)) && (Q x && every Q xs))
      by true t behind =
          let e : n - i ≡ suc (n - (i + 1)) = omega (arith, ltb-true i n t) in
          rw (t, e, behind) (turned true (Q x) (every P (drop (n - (i + 1)) xs)) (every Q xs))
      by false f behind =
          let e : n - i ≡ 0 = omega (arith, ltb-false i n f) in
          let e' : n - (i + 1) ≡ 0 = omega (arith, ltb-false i n f) in
          rw (f, e, behind, e') (turned (P x) (Q x) (every P xs) (every Q xs))

pub returns-then-blank_from : goal.returns-then-blank_from
unfolding poll_registers
returns-then-blank_from c =
    let s = c.args.s in
    let sound : Process → Bool = sound_process_as c.args.poll c.window-window.result s.limit in
    all_from_yields_List (λ (p : ℕ × Process). (ltb p.0 s.n || outside p.1) && sound p.1) c.all.new.self _ c.all.result c.all.ensures.ran
    (YieldsList-from_enumerate (YieldsList-from_slice s.processes (cc)) (cc))
    (λ x b q k. (search rules, search (rules, tests)))
    ∙ one_pass outside sound s.n 0 s.processes
    ∙ ap (λ k. every outside (drop k s.processes) && every sound s.processes) (omega arith)
    ∙ elim c.if-rounds.branch [
      | then-rounds w ↦ sym (records_left c.args.poll s c.window-window.ensures w.blank_from.ensures (search rules) (search rules))
      | else-rounds w ↦ cc
    ]
