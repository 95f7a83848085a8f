use Rattle.std.proofs.Common.{map, get_or, vec_items, sym, ap, ◌∙◌}
use Rattle.sessions.specs.Rows.{session, session_of}
use Rattle.sessions.specs.Admissions.{has_session}
use Rattle.sessions.proofs.Shown.{found}
use Rattle.sessions.proofs.sessions.Sessions.is_open.Goals as goal

pub returns : goal.returns
returns c = λ xs s.
    let col = map session_of (vec_items c.args.self.now.rows) in
    c.is_some.ensures
    ∙ found (λ i. get_or col i (session 0 0)) c.args.caller s.0 c.find.result (c.find.ensures s.0 s.1 s.2)
    ∙ ap (has_session c.args.caller) (sym s.3)
