-- The frame says what stands at the place: of a record, that its body lies within the input and has a length of its kind.
use Rattle.std.proofs.Common.{ℕ, ◌+◌, List, length, drop, sym, ap, ◌∙◌, subst, arith}
use lib.Dec.{T}
use Rattle.terms.specs.Otherwise.{by_number}
use Rattle.frames.specs.Framing.{framed_in}
use Rattle.frames.specs.Frames.{lengths_of, allows}
use Rattle.records.specs.Records.{decode_body}
use Rattle.reader.proofs.Reading.{body_at, body_allowed, body_room, read_nothing, read_refused, read_record}
use Rattle.reader.proofs.parse.Goals as goal

pub overflow_add-at : goal.overflow_add-at
overflow_add-at c =
    let a = c.args in
    let F = framed_in (drop a.at a.input.now) _ _ (sym c.in-Record.ensures.there) in
    let room = body_room a.at _ _ a.input.now F in
    omega (arith, room.0, room.1)

pub overflow_add-at-in-Record : goal.overflow_add-at-in-Record
overflow_add-at-in-Record c =
    let a = c.args in
    let F = framed_in (drop a.at a.input.now) _ _ (sym c.in-Record.ensures.there) in
    let room = body_room a.at _ _ a.input.now F in
    omega (arith, room.0, room.1)

pub slice_bounds-decode_body-count : goal.slice_bounds-decode_body-count
slice_bounds-decode_body-count c =
    let a = c.args in
    let F = framed_in (drop a.at a.input.now) _ _ (sym c.in-Record.ensures.there) in
    (body_room a.at _ _ a.input.now F).0

pub slice_bounds-decode_body-start : goal.slice_bounds-decode_body-start
slice_bounds-decode_body-start c =
    let a = c.args in
    let F = framed_in (drop a.at a.input.now) _ _ (sym c.in-Record.ensures.there) in
    let room = body_room a.at _ _ a.input.now F in
    omega (arith, room.0, room.1)

pub slice_bounds-decode_body-end : goal.slice_bounds-decode_body-end
slice_bounds-decode_body-end c =
    let a = c.args in
    let F = framed_in (drop a.at a.input.now) _ _ (sym c.in-Record.ensures.there) in
    let room = body_room a.at _ _ a.input.now F in
    omega (arith, room.0, room.1)

pub decode_body-requires : goal.decode_body-requires
decode_body-requires c =
    let a = c.args in
    let k = c.in-Record.kind in
    let F = framed_in (drop a.at a.input.now) _ _ (sym c.in-Record.ensures.there) in
    subst (λ (v : List ℕ). T (allows (lengths_of k) (length v + 2))) (sym (body_at a.at _ _ a.input.now F))
    (body_allowed k _ (drop a.at a.input.now) F)

pub returns-in-Nothing : goal.returns-in-Nothing
returns-in-Nothing c = read_nothing c.args.settings _ (sym c.in-Nothing.ensures.there)

pub returns-in-Refused : goal.returns-in-Refused
returns-in-Refused c = read_refused c.args.settings _ _ _ (sym c.in-Refused.ensures.there)

pub returns-in-Record : goal.returns-in-Record
returns-in-Record c =
    let a = c.args in
    let k = c.in-Record.kind in
    let e = sym c.in-Record.ensures.there in
    let F = framed_in (drop a.at a.input.now) _ _ e in
    read_record a.settings _ k _ e (by_number c.decode_body.result)
    (c.decode_body.ensures ∙ ap (decode_body a.settings k) (body_at a.at _ _ a.input.now F)) _ c.input_of.ensures
