use Rattle.std.proofs.Common.{◌≡◌, ℕ, List, take, length, unwrap_or, Option, sym, ap, ◌∙◌, arith}
use Rattle.std.specs.List.{insert, position, position_or_len}
use Rattle.history_model.specs.Names.{is_before}
use Rattle.dir_reads.proofs.NamesInOrder.{put_at, place_or_end}
use Rattle.dir_reads.proofs.listing.put_in_order.Goals as goal

pub returns : goal.returns
returns c =
    let names : List (List ℕ) = c.args.names.now.items in
    let name : List ℕ = c.args.name in
    let found : c.place_of.result ≡ position (is_before name) names = c.place_of.ensures ∙ ap (position (is_before name)) c.deref.ensures.value in
    let size : c.len-end.result ≡ length names = omega (arith, c.len-end.ensures, c.deref.ensures.len, ap length c.deref.ensures.value) in
    let place : c.unwrap_or-place.result ≡ position_or_len (is_before name) names =
    c.unwrap_or-place.ensures ∙ ap (λ (o : Option ℕ). unwrap_or o c.len-end.result) found ∙ ap (unwrap_or (position (is_before name) names)) size ∙ place_or_end name names in
    c.truncate.ensures.items ∙ ap (take c.args.most) (c.in_ok-insert.ensures.items ∙ ap (λ (k : ℕ). insert names k name) place ∙ sym (put_at name names))
