use Rattle.cache_model.proofs.Streams.{eligible_push_first, eligible_push_again}
use Rattle.cache_model.proofs.Latest.{latest_sum_push_first, latest_sum_push_again}
use Rattle.cache_model.proofs.laws.one_more_request.Goals as goal

pub returns : goal.returns
returns c = λ terms trace x of_interval of_request. (
  record { new = eligible_push_first of_interval terms trace x; again = eligible_push_again of_interval terms trace x },
  record { new = latest_sum_push_first trace x of_request; again = latest_sum_push_again trace x of_request },
)
