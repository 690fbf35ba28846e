mod Requests
mod Statuses
mod Handing
