-- The types of the functions over a reader and of those that they call, the promises among them, and how a reader is taken apart and put
-- together.
--     sheet, place, reader                 the types: `&'a [u8]`, `usize`, `Reader<'a>`
--     begins, advances                     what `sheet_place::begin` and `advance` promise, and `first_place` and `place_after` with them
--     attaches, moves                      what `attach` and `moved` promise
--     at, parts        a reader of a slice and a place, and the two of a reader
--     together, apart  what its slice and its place own is what the reader owns, and the other way (as arguments of `advances` and of
--                      `moves`, which are those of a call that hands out an entry)
-- The promises assume nothing. What is owned takes `Logic`.
use Rattle.std.specs.Prelude.{◌≡◌, ◌∷◌}
use denote.Ref.{Bor}
use Rattle.base.specs.Prelude.{refl, ℕ, List, [], length}
use Rattle.base.specs.Walks.{Ura, Logic, named, w64, ent, sem, ‵, given, ◌$◌, ◌∵◌, !, qed, use1, move, keep, learn, fsplit}
use Rattle.base.specs.Walks.{fjoin, done, Lfts}
use Rattle.base.specs.Walks.{u8, named_lft, nothing, slice_val, ShrSlice, shr_slice_Tells, shr_slice_Lawful, Declared, own_open}
use Rattle.base.specs.Walks.{own_shut}
use Rattle.base_walk.proofs.Promise.{Row, by_value, uint, struct, Promise, own_all}
use denote.Struct.Laws as LL
use Rattle.sheet_laws.specs.Places.{begin, advanced}
use Rattle.sheet_laws.specs.declared.Reader.{Reader}
use Rattle.sheet_laws.specs.Reading.{attached, moved_on}
use Rattle.sheet_laws.specs.contracts.Reader as T
use Rattle.sheet_laws.proofs.Reader.TheLaws as T'

abbrev pub sheet : Row 1
sheet =
    by_value (λ κs. ShrSlice (named 0) κs.0 u8) (λ κs s. slice_val s.ref_ptr (length s.now))
    (λ κs. shr_slice_Tells (named 0) κs.0 u8)
    (λ M 𝓤 𝓛 κs. shr_slice_Lawful 𝓛 (named 0) κs.0 u8) (λ κs x w. refl)

abbrev pub place : Row 1
place = uint w64

-- the reader's description and laws, at the signature's lifetime
abbrev pub D : Lfts 1 → Declared
D κs = T.the_type (named_lft 1 0 tt κs)

abbrev pub L : (κs : Lfts 1) → LL.Laws (D κs)
L κs = T'.the_laws (named_lft 1 0 tt κs)

abbrev pub reader : Row 1
reader = struct D L (λ κs x w. refl)

-- ---- the promises
abbrev pub begins : Promise 1
begins = record { takes = sheet ∷ []; gives = place; answer = λ κs a. begin a.0.now; ends = λ κs a. (tt, tt) }

abbrev pub advances : Promise 1
advances = record {
  takes = sheet ∷ place ∷ [];
  gives = place;
  answer = λ κs a. advanced a.0.now a.1.0;
  ends = λ κs a. (tt, (tt, tt));
}

abbrev pub attaches : Promise 1
attaches = record { takes = sheet ∷ []; gives = reader; answer = λ κs a. attached a.0; ends = λ κs a. (tt, tt) }

abbrev pub moves : Promise 1
moves = record { takes = reader ∷ []; gives = reader; answer = λ κs a. moved_on a.0; ends = λ κs a. (tt, tt) }

-- ---- a reader, taken apart and put together
abbrev pub at : Bor (List ℕ) → ℕ → Reader
at s p = record { sheet = s; place = p }

abbrev pub parts : Reader → Bor (List ℕ) × (ℕ × Unit {0})
parts d = (d.sheet, (d.place, tt))

module _ {M : Type 1} {𝓤 : Ura M} (𝓛 : Logic 𝓤) (κs : Lfts 1) (s : Bor (List ℕ)) (p : ℕ) where
  pub together : ent 𝓤 (sem 𝓛 (own_all advances κs (s, (p, tt)))) (sem 𝓛 (own_all moves κs (at s p, tt)))
  together = qed 𝓛 (‵ (own_all advances κs (s, (p, tt))) ∷ []) ∵
      use1 𝓛 (‵ ((reader.row κs).own_val (at s p) (reader.val κs (at s p) ∷ [])))
      (own_shut 𝓛 (D κs) (L κs) (s, (p, tt))) $ nothing ! $ move ! (1 ∷ 0 ∷ []) $ fjoin ! $ done !

  pub apart : ent 𝓤 (sem 𝓛 (own_all moves κs (at s p, tt))) (sem 𝓛 (own_all advances κs (s, (p, tt))))
  apart = qed 𝓛 (‵ (own_all moves κs (at s p, tt)) ∷ []) ∵ fsplit ! $
      use1 𝓛 (given (reader.val κs (at s p) ∷ [] ≡ reader.val κs (at s p) ∷ []) (‵ (own_all advances κs (s, (p, tt)))))
      (own_open 𝓛 (D κs) (L κs) (s, (p, tt)) (reader.val κs (at s p))) $ learn ! (λ _. keep ! (0 ∷ []) $ done !)
