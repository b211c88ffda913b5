-- The page holds what it held.
use Rattle.std.proofs.Common.{◌≡◌, arith, true}
use Rattle.row_store.proofs.Owned.{on_ok, own_kept, own_over, own_there, values_same}
use Rattle.row_store.proofs.owning.own_one.Goals as goal

pub returns-then-page-len-clause-own : goal.returns-then-page-len-clause-own
returns-then-page-len-clause-own g c = own_over c.args.pages.now.items c.args.page (omega (arith, c.if-page-len.true, c.len.ensures, c.args.pages.now.ok.0))

pub returns-clause-values : goal.returns-clause-values
returns-clause-values g c = values_same c.args.pages.now.items c.args.page c.index_mut.result.now c.own.new.self c.index_mut.ensures.value c.own.ensures.value

pub returns-clause-kept : goal.returns-clause-kept
returns-clause-kept g c = λ page own. own_kept c.args.pages.now.items c.args.page c.index_mut.result.now c.own.new.self c.index_mut.ensures.value c.own.ensures.kept page own

pub returns-clause-own : goal.returns-clause-own
returns-clause-own g c = on_ok c.own.result (λ own. own_there c.args.pages.now.items c.args.page c.own.new.self own) c.own.ensures.own
