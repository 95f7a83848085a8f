use Rattle.std.proofs.Common.{sym}
use Rattle.lines.proofs.Lined.{answered}
use Rattle.lines.proofs.line.Line.request.Goals as goal

pub returns-in-Set : goal.returns-in-Set
returns-in-Set c = answered c.args.self.now c.args.word c.len.result c.len.ensures.value _ _ (sym c.if-not-takes.ensures) c.in-Set.is c.storage.ensures

pub returns-in-Add : goal.returns-in-Add
returns-in-Add c = answered c.args.self.now c.args.word c.len.result c.len.ensures.value _ _ (sym c.if-not-takes.ensures) c.in-Add.is c.storage-in-Add.ensures

pub returns-in-Replace : goal.returns-in-Replace
returns-in-Replace c = answered c.args.self.now c.args.word c.len.result c.len.ensures.value _ _ (sym c.if-not-takes.ensures) c.in-Replace.is c.storage-in-Replace.ensures

pub returns-in-Cas : goal.returns-in-Cas
returns-in-Cas c = answered c.args.self.now c.args.word c.len.result c.len.ensures.value _ _ (sym c.if-not-takes.ensures) c.in-Cas.is c.cas.ensures

pub returns-in-Touch : goal.returns-in-Touch
returns-in-Touch c = answered c.args.self.now c.args.word c.len.result c.len.ensures.value _ _ (sym c.if-not-takes.ensures) c.in-Touch.is c.touch.ensures
