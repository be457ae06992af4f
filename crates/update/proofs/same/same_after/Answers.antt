-- `same_after` meets its contract: both bodies are passed, and what is left is compared.
use borrow.Author.Rules.{rules}
use Rattle.update.proofs.ElsewhereLaws.{can_scan, end_within, after_told}
use Rattle.update.proofs.SameLaws.{answers_same}
use Rattle.update.proofs.same.same_after.Goals as goal

pub scan-old-requires : goal.scan-old-requires
scan-old-requires c =
    let a = c.args in
    can_scan c.requires.old a.ks.now a.s.now a.at c.requires.routine c.requires.old_body

pub scan-new-requires : goal.scan-new-requires
scan-new-requires c =
    let a = c.args in
    can_scan c.requires.new a.ks.now a.t.now a.at c.requires.routine c.requires.new_body

pub slice_bounds-eq-count : goal.slice_bounds-eq-count
slice_bounds-eq-count c =
    let a = c.args in
    let can = c.requires in
    let scanned = c.scan-old.result in
    let e = end_within can.old a.ks.now a.s.now a.at can.routine can.old_body scanned.next scanned.calls
    c.scan-old.ensures in
    search rules

pub slice_bounds-eq-start : goal.slice_bounds-eq-start
slice_bounds-eq-start c =
    let a = c.args in
    let can = c.requires in
    let scanned = c.scan-old.result in
    let e = end_within can.old a.ks.now a.s.now a.at can.routine can.old_body scanned.next scanned.calls
    c.scan-old.ensures in
    search rules

pub slice_bounds-eq-count-2 : goal.slice_bounds-eq-count-2
slice_bounds-eq-count-2 c =
    let a = c.args in
    let can = c.requires in
    let scanned = c.scan-new.result in
    let e = end_within can.new a.ks.now a.t.now a.at can.routine can.new_body scanned.next scanned.calls
    c.scan-new.ensures in
    search rules

pub slice_bounds-eq-start-2 : goal.slice_bounds-eq-start-2
slice_bounds-eq-start-2 c =
    let a = c.args in
    let can = c.requires in
    let scanned = c.scan-new.result in
    let e = end_within can.new a.ks.now a.t.now a.at can.routine can.new_body scanned.next scanned.calls
    c.scan-new.ensures in
    search rules

pub returns : goal.returns
returns c =
    let a = c.args in
    let e = c.scan-old in
    let f = c.scan-new in
    after_told a.ks.now a.s.now a.t.now a.at e.result.next f.result.next e.result.calls f.result.calls c.eq.result
    e.ensures f.ensures (answers_same _ _ c.eq.result c.eq.ensures)
