use Rattle.join_text.proofs.Laws.JoinText.{text-first, text-second, text-refused}
use Rattle.join_text.proofs.put_error.Goals as goal

pub returns-in-FirstRefused : goal.returns-in-FirstRefused
returns-in-FirstRefused c =
    let r = c.put_named.ensures in
    (text-first c.in-FirstRefused.is r.0, r.1)

pub returns-in-SecondRefused : goal.returns-in-SecondRefused
returns-in-SecondRefused c =
    let r = c.put_named-in-SecondRefused.ensures in
    (text-second c.in-SecondRefused.is r.0, r.1)

pub returns-in-Refused : goal.returns-in-Refused
returns-in-Refused c =
    let r = c.put_named-in-Refused.ensures in
    (text-refused c.in-Refused.is r.0, r.1)
