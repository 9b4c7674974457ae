use Rattle.std.proofs.Common.{Some, sym, subst}
use Rattle.lufs_top.specs.declared.words.Command.{Command as SpokenCommand}
use Rattle.lufs_top.specs.Words.{command_meant}
use Rattle.lufs_top.specs.Run.{Ran}
use Rattle.lufs_top.specs.declared.ending.Ending.TheVariants.{Drive}
use Rattle.lufs_top.proofs.NameTests.{no_history_is_replies}
use Rattle.lufs_top.proofs.top.run_command.Goals as goal

pub returns-in-Scan : goal.returns-in-Scan
returns-in-Scan g c =
    subst (λ (command : SpokenCommand). Ran (Some (command_meant command)) c.scan_named.result (g.H.Host.outside c.args.host.now) (g.H.Host.outside c.scan_named.new.host)) (sym c.in-Scan.is) c.scan_named.ensures

pub returns-in-Check : goal.returns-in-Check
returns-in-Check g c =
    subst (λ (command : SpokenCommand). Ran (Some (command_meant command)) c.check_named.result (g.H.Host.outside c.args.host.now) (g.H.Host.outside c.check_named.new.host)) (sym c.in-Check.is) c.check_named.ensures

pub returns-in-Mkfs : goal.returns-in-Mkfs
returns-in-Mkfs g c =
    subst (λ (command : SpokenCommand). Ran (Some (command_meant command)) c.mkfs_named.result (g.H.Host.outside c.args.host.now) (g.H.Host.outside c.mkfs_named.new.host)) (sym c.in-Mkfs.is) c.mkfs_named.ensures

pub drive_named-requires : goal.drive_named-requires
drive_named-requires g c = no_history_is_replies c.in-Drive.volume.now c.in-Drive.script.now

pub returns-in-Drive : goal.returns-in-Drive
returns-in-Drive g c =
    subst (λ (command : SpokenCommand). Ran (Some (command_meant command)) (Drive c.drive_named.result) (g.H.Host.outside c.args.host.now) (g.H.Host.outside c.drive_named.new.host)) (sym c.in-Drive.is) c.drive_named.ensures
