-- How many legal lists there are of each length up to 6, for one and for two processes, worked out; and so that there is a first.
use Rattle.std.specs.Prelude.{◌<◌, ◌≤◌, ◌≡◌, ◌∷◌}
use Rattle.base.specs.Prelude.{ℕ, suc, zero, refl, ap, ap₂, ◌∙◌, List, [], map, length, get_or, arith}
use Rattle.base.specs.Prelude.{Bool, true, false, ltb, ltb-true, inl, inr}
use Rattle.model.specs.Window.{window, root_up, root_from}
use Rattle.model.specs.Board.{opened, no_counts}
use Rattle.model.specs.Step.{waiting_rule, phase_access, access, found, go_on, phase_next, next, learnt, stored, turn, counted}
use Rattle.model.specs.Refusal.{full}
use Rattle.model.specs.Machine.{access_of, becomes, after, counts_after, answered, perform, execute}
use Rattle.model.specs.Sound.{every}
use Rattle.model_laws.specs.Every.{every_get}
use Rattle.model_short.specs.Short.{choices, legal_lists}
use Rattle.model_short.specs.Calls.{none}
use Rattle.model_short.specs.Claim.{short_lengths, how_many}
use Rattle.model_short_laws.specs.Choosing.{Lists, raw_answer, behind, by_entry, lists_from, legal_lists_law}
use Rattle.model_short_laws.specs.Order.{OneOrTwo}

-- As they are chosen, which is fast to work out.
abbrev chosen : (n m : ℕ) → ℕ
chosen n m = length (lists_from n m (opened n (window n)) no_counts)

chosen_counts : (map (chosen 1) short_lengths ≡ 1 ∷ 1 ∷ 4 ∷ 12 ∷ 36 ∷ 108 ∷ 324 ∷ [])
    × (map (chosen 2) short_lengths ≡ 1 ∷ 2 ∷ 10 ∷ 48 ∷ 264 ∷ 1536 ∷ 9144 ∷ [])
unfolding lists_from by_entry behind choices raw_answer execute perform answered opened window root_up root_from after counts_after access_of becomes
    turn stored found counted access phase_access next phase_next go_on learnt waiting_rule full
chosen_counts = (refl, refl)

alike : (n : ℕ) (ms : List ℕ) → map (how_many n) ms ≡ map (chosen n) ms
alike n [] = refl
alike n (m ∷ ms) = ap₂ ◌∷◌ (ap length (legal_lists_law n m)) (alike n ms)

pub counts_one : map (how_many 1) short_lengths ≡ 1 ∷ 1 ∷ 4 ∷ 12 ∷ 36 ∷ 108 ∷ 324 ∷ []
counts_one = alike 1 short_lengths ∙ chosen_counts.0

pub counts_two : map (how_many 2) short_lengths ≡ 1 ∷ 2 ∷ 10 ∷ 48 ∷ 264 ∷ 1536 ∷ 9144 ∷ []
counts_two = alike 2 short_lengths ∙ chosen_counts.1

-- ---- there is a first

abbrev some : ℕ → Bool
some k = ltb 0 k

some_each : (n : ℕ) → OneOrTwo n → every some (map (how_many n) short_lengths) ≡ true
some_each n (inl e) = ap (λ (k : ℕ). every some (map (how_many k) short_lengths)) e ∙ ap (every some) counts_one
some_each n (inr e) = ap (λ (k : ℕ). every some (map (how_many k) short_lengths)) e ∙ ap (every some) counts_two

length_is : (n m : ℕ) → m ≤ 6 → get_or (map (how_many n) short_lengths) m 1 ≡ how_many n m
length_is n zero h = refl
length_is n (suc zero) h = refl
length_is n (suc (suc zero)) h = refl
length_is n (suc (suc (suc zero))) h = refl
length_is n (suc (suc (suc (suc zero)))) h = refl
length_is n (suc (suc (suc (suc (suc zero))))) h = refl
length_is n (suc (suc (suc (suc (suc (suc zero)))))) h = refl
length_is n (suc (suc (suc (suc (suc (suc (suc m))))))) h = absurd (omega arith)

not_none : (ls : Lists) → 0 < length ls → none ls ≡ false
not_none [] h = absurd (omega arith)
not_none (l ∷ ls) h = refl

pub some_legal : (n : ℕ) → OneOrTwo n → (m : ℕ) → m ≤ 6 → none (legal_lists n m) ≡ false
some_legal n h m low =
    let t : some (get_or (map (how_many n) short_lengths) m 1) ≡ true = every_get some (map (how_many n) short_lengths) m 1 refl (some_each n h) in
    not_none (legal_lists n m) (ltb-true 0 (how_many n m) (rw (length_is n m low) at t))
