use Rattle.wire_node.proofs.step.note_and_draft.Goals as goal

pub returns-in-Err-clause-err : goal.returns-in-Err-clause-err
returns-in-Err-clause-err g c = (c.in-Err.ensures.err.0, c.in-Err.ensures.err.1, c.take_back.ensures _ _ c.in_ok-note.ensures.ok)
