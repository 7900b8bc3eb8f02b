-- The chunk that is read is the first of those from i on: it and those behind it decide.
use Rattle.std.specs.Prelude.{◌/◌, ◌≡◌, ◌&&◌, ◌+◌, false, drop}
use Rattle.std.specs.Simd.{first_chunks}
use Rattle.std.proofs.Common.{rules, tests}
use Rattle.base.specs.Prelude.{ℕ, List, [], length, get_or, sym, ◌∙◌, ap, drop_of_length-le}
use Rattle.model.specs.Sound.{every}
use Rattle.model_write.specs.Write.{well_formed, buffer_entries}
use Rattle.sheet_write_refusal.proofs.Chunks.{chunk_formed, chunks_formed, formed_from}
use Rattle.sheet_write_refusal.proofs.well_formed.Goals as goal

by_chunks : (es : List ℕ) (whole : List (List ℕ)) → whole ≡ first_chunks 6 (length es / 6) es
    → every chunk_formed whole ≡ well_formed (buffer_entries es)
by_chunks es whole front = ap (every chunk_formed) front ∙ sym (chunks_formed (length es / 6) es 0)

pub returns-then-not-formed : goal.returns-then-not-formed
returns-then-not-formed c =
    let whole = c.as_chunks.result.0.now in
    let i = c.loop-kind.kind-index in
    let broken : false ≡ chunk_formed (get_or whole i []) = search (rules, tests) in
    ap (λ b. b && every chunk_formed (drop (i + 1) whole)) broken
    ∙ sym (formed_from whole i (search rules))
    ∙ sym c.loop-kind.invariant
    ∙ by_chunks c.args.entries.now whole c.as_chunks.ensures.front

pub returns : goal.returns
returns c =
    let whole = c.as_chunks.result.0.now in
    ap (every chunk_formed) (sym (drop_of_length-le whole (search rules)))
    ∙ sym c.loop-kind.invariant
    ∙ by_chunks c.args.entries.now whole c.as_chunks.ensures.front
