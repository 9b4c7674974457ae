use Rattle.file_map.proofs.FilesInTree.{bytes_mapped}
use Rattle.file_map.proofs.laws.mapped_bytes.Goals as goal

pub returns : goal.returns
returns c = bytes_mapped
