use Rattle.std.proofs.Common.{refl}
use Rattle.lufs_base.specs.Fields.{field_bytes}
use Rattle.lufs_base.proofs.Written.{put_mid_is_put_at}
use Rattle.lufs_base.proofs.fields.put_u64.Goals as goal

pub returns : goal.returns
returns c = put_mid_is_put_at c.args.out.now (field_bytes 8 c.args.value) c.write_u64.new.buf c.args.at 8 c.requires refl c.write_u64.ensures
