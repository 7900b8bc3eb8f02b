-- A text put on a page, from a place on.
use Rattle.std.specs.Prelude.{◌+◌, ◌-◌, ◌≤◌, ◌<◌, ◌≡◌, ◌∷◌, ◌++◌}
use Rattle.std.proofs.lemmas.List.{take_more}
use Rattle.base.specs.Prelude.{ℕ, zero, suc, add-zero, add-suc, suc-add, zero-add, zero-sub, suc-sub-suc, sub-zero}
use Rattle.base.specs.Prelude.{add-one, arith, refl, sym, ap, ◌∙◌, cond, List, [], append_assoc, take, get_or}
use Rattle.base.specs.Prelude.{length, set, drop, replicate, length-replicate, sets, sets-eq, ltb, lt-ltb}
use Rattle.use_text.specs.declared.Page.{Page}

-- How many bytes a page has.
abbrev pub page_size : ℕ
page_size = 5120

-- A page: its bytes, and the place of the next one, which is the length of its text.
abbrev pub page : List ℕ → ℕ → Page
page bytes len = record { bytes = bytes; len = len }

-- A page with no text: zeros.
abbrev pub blank_page : Page
blank_page = page (replicate page_size 0) 0

-- With one byte more, which is cut off where the page is full.
unfoldable pub put_byte : Page → ℕ → Page
put_byte p b = cond (ltb p.len page_size) (page (set p.bytes p.len b) (p.len + 1)) p

-- With a text.
unfoldable pub put_all : Page → List ℕ → Page
put_all p [] = p
put_all p (b ∷ text) = put_all (put_byte p b) text

-- What a function that puts a text does: to the bytes, and to the place of the next one.
pub record Put (entry : Page) (text : List ℕ) (exit : Page) : Type 0 where
  pub puts : exit ≡ put_all entry text

-- ---- laws

append : (p : Page) (t u : List ℕ) → put_all p (t ++ u) ≡ put_all (put_all p t) u
unfolding put_all
append p [] u = refl
append p (b ∷ t) u = append (put_byte p b) t u

-- One text behind another.
pub after : {e x y : Page} {t u : List ℕ} → Put e t x → Put x u y → Put e (t ++ u) y
after {e = e} {t = t} {u = u} p q = record { puts = q.puts ∙ ap (λ s. put_all s u) p.puts ∙ sym (append e t u) }

-- A text by another name.
pub same : {e x : Page} {t u : List ℕ} → t ≡ u → Put e t x → Put e u x
same h p = rw (← h) p

-- One text behind another, the second of two parts.
pub after_parts : {e x y : Page} {t : List ℕ} (u v : List ℕ) → Put e t x → Put x (u ++ v) y → Put e (t ++ u ++ v) y
after_parts {t = t} u v p q = same (sym (append_assoc t u v)) (after p q)

-- No text.
pub nothing : (e : Page) → Put e [] e
unfolding put_all
nothing e = record { puts = refl }

-- One byte more of a text.
pub one_more : {e x y : Page} (t : List ℕ) (i : ℕ) → i < length t → Put e (take i t) x → Put x (get_or t i 0 ∷ []) y
    → Put e (take (i + 1) t) y
one_more t i h p q = same (sym (take_more t i 0 h)) (after p q)

-- A text that fits is put whole.
fits : (e : List ℕ) (a : ℕ) (t : List ℕ) → a + length t ≤ page_size → put_all (page e a) t ≡ page (sets e a t) (a + length t)
unfolding put_all put_byte
fits e a [] h = rw add-zero
fits e a (b ∷ t) h =
    rw (lt-ltb a page_size (omega arith), add-one, add-suc, ← suc-add) (fits (set e a b) (suc a) t (omega arith))

drop_replicate : (n k v : ℕ) → drop k (replicate n v) ≡ replicate (n - k) v
drop_replicate n zero v = rw sub-zero
drop_replicate zero (suc k) v = rw zero-sub
drop_replicate (suc n) (suc k) v = rw suc-sub-suc (drop_replicate n k v)

-- So on a blank page it stands alone, with zeros behind it.
pub on_blank : {x : Page} (t : List ℕ) → length t ≤ page_size → Put blank_page t x
    → (x.len ≡ length t) × (x.bytes ≡ t ++ replicate (page_size - x.len) 0)
on_blank {x} t h p =
    let q : x ≡ page (sets (replicate page_size 0) 0 t) (0 + length t) = p.puts ∙ fits _ 0 t (omega arith) in
    let n : x.len ≡ length t = ap (λ s. s.len) q ∙ zero-add _ in (
      n,
      ap (λ s. s.bytes) q
          ∙ rw (n, sets-eq t (replicate page_size 0) 0 (rw (length-replicate, zero-add) h), zero-add, drop_replicate),
    )
