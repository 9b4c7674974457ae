-- Of each call, which path it has and whether a link at its end is followed.
use Rattle.std.proofs.Common.{ap}
use Rattle.tree_types.specs.declared.call.Call.{Call}
use Rattle.history_model.specs.Ends.{ends_of}
use Rattle.call_ops.proofs.asking.ask.Goals as goal

pub ask_to_change-requires-clause-path : goal.ask_to_change-requires-clause-path
unfolding ends_of
ask_to_change-requires-clause-path g c tree who = ap (λ (x : Call). ends_of tree who x) c.in-Create.is

pub ask_to_change-requires-in-Mkdir-clause-path : goal.ask_to_change-requires-in-Mkdir-clause-path
unfolding ends_of
ask_to_change-requires-in-Mkdir-clause-path g c tree who = ap (λ (x : Call). ends_of tree who x) c.in-Mkdir.is

pub ask_to_change-requires-in-Remove-clause-path : goal.ask_to_change-requires-in-Remove-clause-path
unfolding ends_of
ask_to_change-requires-in-Remove-clause-path g c tree who = ap (λ (x : Call). ends_of tree who x) c.in-Remove.is

pub ask_to_change-requires-in-Rmdir-clause-path : goal.ask_to_change-requires-in-Rmdir-clause-path
unfolding ends_of
ask_to_change-requires-in-Rmdir-clause-path g c tree who = ap (λ (x : Call). ends_of tree who x) c.in-Rmdir.is

pub ask_to_tell-requires-clause-path : goal.ask_to_tell-requires-clause-path
unfolding ends_of
ask_to_tell-requires-clause-path g c tree who = ap (λ (x : Call). ends_of tree who x) c.in-Stat.is

pub ask_to_tell-requires-in-Lstat-clause-path : goal.ask_to_tell-requires-in-Lstat-clause-path
unfolding ends_of
ask_to_tell-requires-in-Lstat-clause-path g c tree who = ap (λ (x : Call). ends_of tree who x) c.in-Lstat.is

pub ask_to_tell-requires-in-List-clause-path : goal.ask_to_tell-requires-in-List-clause-path
unfolding ends_of
ask_to_tell-requires-in-List-clause-path g c tree who = ap (λ (x : Call). ends_of tree who x) c.in-List.is
