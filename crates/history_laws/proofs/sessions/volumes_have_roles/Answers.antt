-- A block has one claim at most, which gives it its role.
use Rattle.history_laws.proofs.VolumeRolesLaws.{roles_of_volume, volume_begins}
use Rattle.history_laws.proofs.sessions.volumes_have_roles.Goals as goal

pub returns-clause-roles : goal.returns-clause-roles
returns-clause-roles c = roles_of_volume

pub returns-clause-owners : goal.returns-clause-owners
returns-clause-owners c = λ g blocks hands owners ok sound. volume_begins g blocks hands ok sound owners
