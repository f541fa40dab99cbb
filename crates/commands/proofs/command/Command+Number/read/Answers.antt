use Rattle.std.proofs.Common.{subst}
use Rattle.commands.specs.Orders.{HasCommand}
use Rattle.commands.proofs.Rewriting.{two_ordered, one_ordered, none_ordered}
use Rattle.commands.proofs.command.Command+Number.read.Goals as goal

pub returns-in_ok-number-in-Put-2 : goal.returns-in_ok-number-in-Put-2
returns-in_ok-number-in-Put-2 c =
    let l = c.args.line.now in
    let read = c.in_ok-record.ensures in
    two_ordered l 80 read.0 c.in-Put.«record» c.in-Put.value c.in_ok-number-in-Put.field-0 c.in_ok-number-in-Put-2.field-0
    (subst (HasCommand l) c.in-Put.is read.1) c.in_ok-number-in-Put.ensures c.in_ok-number-in-Put-2.ensures

pub returns-in_ok-number-in-Renew-2 : goal.returns-in_ok-number-in-Renew-2
returns-in_ok-number-in-Renew-2 c =
    let l = c.args.line.now in
    let read = c.in_ok-record.ensures in
    two_ordered l 82 read.0 c.in-Renew.«record» c.in-Renew.value c.in_ok-number-in-Renew.field-0 c.in_ok-number-in-Renew-2.field-0
    (subst (HasCommand l) c.in-Renew.is read.1) c.in_ok-number-in-Renew.ensures c.in_ok-number-in-Renew-2.ensures

pub returns-in_ok-number-in-Save-2 : goal.returns-in_ok-number-in-Save-2
returns-in_ok-number-in-Save-2 c =
    let l = c.args.line.now in
    let read = c.in_ok-record.ensures in
    two_ordered l 83 read.0 c.in-Save.«record» c.in-Save.value c.in_ok-number-in-Save.field-0 c.in_ok-number-in-Save-2.field-0
    (subst (HasCommand l) c.in-Save.is read.1) c.in_ok-number-in-Save.ensures c.in_ok-number-in-Save-2.ensures

pub returns-in_ok-number-in-Get : goal.returns-in_ok-number-in-Get
returns-in_ok-number-in-Get c =
    let l = c.args.line.now in
    let read = c.in_ok-record.ensures in
    one_ordered l 71 read.0 c.in-Get.«record» c.in_ok-number-in-Get.field-0 (subst (HasCommand l) c.in-Get.is read.1) c.in_ok-number-in-Get.ensures

pub returns-in-Ledger : goal.returns-in-Ledger
returns-in-Ledger c =
    let l = c.args.line.now in
    let read = c.in_ok-record.ensures in
    let both = none_ordered l 76 read.0 (subst (HasCommand l) c.in-Ledger.is read.1) in
    (both.0, (both.1, tt, tt))
