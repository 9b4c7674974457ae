use Rattle.log_laws.proofs.HeaderBytes.{header_written}
use Rattle.log_format.proofs.header.write_header.Goals as goal

pub returns : goal.returns
returns c =
    header_written c.args.header.now _ c.clear.new.out c.put_u32.new.out c.put_u32-2.new.out c.put_u32-3.new.out c.put_u32-4.new.out c.requires
    c.clear.ensures c.put_u32.ensures c.put_u32-2.ensures c.put_u32-3.ensures c.put_u32-4.ensures
