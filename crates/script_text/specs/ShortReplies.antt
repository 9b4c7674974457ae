-- The replies whose lines find room in a buffer of a fixed size.
use Rattle.std.specs.Prelude.{nat_le, Bool, true, ◌&&◌, length}
use Rattle.std.specs.List.{list_all}
use Rattle.tree_types.specs.declared.reply.Reply.{Reply}
use Rattle.tree_types.specs.declared.reply.Reply.TheVariants as reply

-- the reply gives no more than a call may tell: 4,096 bytes of a file, 16 names of 255 bytes, a text of 1,024 bytes
abbrev pub is_short : Reply → Bool
is_short (reply.Read bytes) = nat_le (length bytes) 4096
is_short (reply.Names names more) = nat_le (length names) 16 && list_all (λ name. nat_le (length name) 255) names
is_short (reply.Text text) = nat_le (length text) 1024
is_short other = true
