use Rattle.std.proofs.Common.{◌≡◌, [], Some, sym, ap, subst, ◌∙◌}
use Rattle.lufs_base.specs.declared.geometry.Geometry.{Geometry}
use Rattle.meta_store.specs.Store.{StoreTold}
use Rattle.plain_calls.specs.Served.{IsServed}
use Rattle.plain_calls.proofs.ServedCalls.{stands_there, served_without_memory}
use Rattle.plain_calls.proofs.serving.serve.Goals as goal

pub returns-in-Ok-clause-served : goal.returns-in-Ok-clause-served
returns-in-Ok-clause-served c tree stands =
    let s = c.args.store in
    let t = c.new-store.result in
    let alike : t.geometry ≡ s.geometry = ap (λ (told : StoreTold). told.geometry) c.new-store.ensures.told ∙ c.geometry.ensures.value in
    let same : Some t.image.items ≡ Some s.image.items = ap (λ (told : StoreTold). told.content) c.new-store.ensures.told ∙ sym c.into_image.ensures in
    subst (λ (g : Geometry). IsServed g c.args.moment tree c.args.cred.now c.args.call.now c.in-Ok.reply c.in-Ok.ino c.serve_over.new.store.image.items) alike
    (c.in-Ok.ensures.served tree (stands_there s.geometry t.geometry s.image.items t.image.items tree [] alike same stands))

pub returns-in-Err-clause-served : goal.returns-in-Err-clause-served
returns-in-Err-clause-served c tree stands =
    let s = c.args.store in
    let t = c.new-store.result in
    let alike : t.geometry ≡ s.geometry = ap (λ (told : StoreTold). told.geometry) c.new-store.ensures.told ∙ c.geometry.ensures.value in
    let same : Some t.image.items ≡ Some s.image.items = ap (λ (told : StoreTold). told.content) c.new-store.ensures.told ∙ sym c.into_image.ensures in
    served_without_memory s.geometry c.serve_over.new.store.geometry c.args.moment tree c.args.cred.now c.args.call.now c.serve_over.new.store.image.items
    (c.in-Err.ensures.geometry ∙ alike) (c.in-Err.ensures.none tree (stands_there s.geometry t.geometry s.image.items t.image.items tree [] alike same stands))
